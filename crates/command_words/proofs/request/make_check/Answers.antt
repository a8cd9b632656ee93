use Rattle.std.proofs.Common.{◌≡◌, ◌∙◌, true, ap, codes, refl}
use Rattle.std.proofs.lemmas.Result.{IfOk-weaker}
use Rattle.clap.specs.Words.{is_simple_and_free, with_rule}
use Rattle.clap.proofs.OnLiterals.{clap_on_literals}
use Rattle.command_words.specs.Asked.{check_command}
use Rattle.command_words.specs.Commands.{flag, optional, wanted}
use Rattle.command_words.proofs.request.make_check.Goals as goal

made_is_simple : is_simple_and_free check_command ≡ true
unfolding check_command clap_on_literals
made_is_simple = refl

pub returns : goal.returns
unfolding check_command
returns c =
    let first = c.in_ok-command.ensures ∙ ap (λ a. with_rule a (wanted (codes "cert"))) c.new.ensures.app in
    let second = c.in_ok-command-2.ensures ∙ ap (λ a. with_rule a (optional (codes "problem"))) first in
    let third = c.in_ok-command-3.ensures ∙ ap (λ a. with_rule a (optional (codes "root"))) second in
    let told = IfOk-weaker c.with_flag.result _ _ (λ _ e. e ∙ ap (λ a. with_rule a (flag (codes "rewrite"))) third) c.with_flag.ensures in
    record { told = told; simple = IfOk-weaker c.with_flag.result _ _ (λ _ e. ap is_simple_and_free e ∙ made_is_simple) told }
