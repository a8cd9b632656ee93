use Rattle.std.proofs.Common.{◌≡◌, ◌∙◌, true, ap, codes, refl}
use Rattle.std.proofs.lemmas.Result.{IfOk-weaker}
use Rattle.clap.specs.Words.{is_simple_and_free, with_rule}
use Rattle.clap.proofs.OnLiterals.{clap_on_literals}
use Rattle.command_words.specs.Asked.{stress_command}
use Rattle.command_words.specs.Commands.{wanted}
use Rattle.command_words.proofs.request.make_stress.Goals as goal

made_is_simple : is_simple_and_free stress_command ≡ true
unfolding stress_command clap_on_literals
made_is_simple = refl

pub returns : goal.returns
unfolding stress_command
returns c =
    let told = IfOk-weaker c.with_word.result _ _ (λ _ e. e ∙ ap (λ a. with_rule a (wanted (codes "number"))) c.new.ensures.app) c.with_word.ensures in
    record { told = told; simple = IfOk-weaker c.with_word.result _ _ (λ _ e. ap is_simple_and_free e ∙ made_is_simple) told }
