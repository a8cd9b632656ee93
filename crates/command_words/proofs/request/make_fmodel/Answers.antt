use Rattle.std.proofs.Common.{◌≡◌, ◌∙◌, true, ap, codes, refl}
use Rattle.std.proofs.lemmas.Result.{IfOk-weaker}
use Rattle.clap.specs.Words.{is_simple_and_free, with_rule}
use Rattle.clap.proofs.OnLiterals.{clap_on_literals}
use Rattle.command_words.specs.Asked.{fmodel_command}
use Rattle.command_words.specs.Commands.{optional, wanted}
use Rattle.command_words.proofs.request.make_fmodel.Goals as goal

made_is_simple : is_simple_and_free fmodel_command ≡ true
unfolding fmodel_command clap_on_literals
made_is_simple = refl

pub returns : goal.returns
unfolding fmodel_command
returns c =
    let first = c.in_ok-command.ensures ∙ ap (λ a. with_rule a (wanted (codes "number"))) c.new.ensures.app in
    let second = c.in_ok-command-2.ensures ∙ ap (λ a. with_rule a (wanted (codes "file"))) first in
    let told = IfOk-weaker c.with_option.result _ _ (λ _ e. e ∙ ap (λ a. with_rule a (optional (codes "root"))) second) c.with_option.ensures in
    record { told = told; simple = IfOk-weaker c.with_option.result _ _ (λ _ e. ap is_simple_and_free e ∙ made_is_simple) told }
