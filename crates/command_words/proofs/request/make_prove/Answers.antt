use Rattle.std.proofs.Common.{◌≡◌, ◌∙◌, true, ap, codes, refl}
use Rattle.std.proofs.lemmas.Result.{IfOk-weaker}
use Rattle.clap.specs.Words.{is_simple_and_free, with_rule}
use Rattle.clap.proofs.OnLiterals.{clap_on_literals}
use Rattle.command_words.specs.Asked.{prove_command}
use Rattle.command_words.specs.Commands.{file_command, optional, problem_command}
use Rattle.command_words.proofs.request.make_prove.Goals as goal

made_is_simple : is_simple_and_free prove_command ≡ true
unfolding prove_command problem_command file_command clap_on_literals
made_is_simple = refl

pub returns : goal.returns
unfolding prove_command
returns c =
    let told = IfOk-weaker c.with_option.result _ _ (λ _ e. e ∙ ap (λ a. with_rule a (optional (codes "budget"))) c.in_ok-command.ensures.told) c.with_option.ensures in
    record { told = told; simple = IfOk-weaker c.with_option.result _ _ (λ _ e. ap is_simple_and_free e ∙ made_is_simple) told }
