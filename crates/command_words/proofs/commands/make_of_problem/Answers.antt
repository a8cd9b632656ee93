use Rattle.std.proofs.Common.{◌≡◌, ◌∙◌, ℕ, List, true, ap, codes, refl}
use Rattle.std.proofs.lemmas.Result.{IfOk-weaker}
use Rattle.clap.specs.Words.{is_simple_and_free, with_rule}
use Rattle.clap.proofs.OnLiterals.{clap_on_literals}
use Rattle.command_words.specs.Commands.{file_command, optional, problem_command}
use Rattle.command_words.proofs.commands.make_of_problem.Goals as goal

-- whatever the command's word
made_is_simple : (word : List ℕ) → is_simple_and_free (problem_command word) ≡ true
unfolding problem_command file_command clap_on_literals
made_is_simple word = refl

pub returns : goal.returns
unfolding problem_command
returns c =
    let told = IfOk-weaker c.with_option.result _ _ (λ _ e. e ∙ ap (λ a. with_rule a (optional (codes "root"))) c.in_ok-command.ensures.told) c.with_option.ensures in
    record { told = told; simple = IfOk-weaker c.with_option.result _ _ (λ _ e. ap is_simple_and_free e ∙ made_is_simple c.args.word.now) told }
