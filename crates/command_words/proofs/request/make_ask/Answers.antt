use Rattle.std.proofs.Common.{◌≡◌, ◌∙◌, true, ap, codes, refl}
use Rattle.std.proofs.lemmas.Result.{IfOk-weaker}
use Rattle.clap.specs.Words.{is_simple_and_free, with_rule}
use Rattle.clap.proofs.OnLiterals.{clap_on_literals}
use Rattle.command_words.specs.Asked.{ask_command}
use Rattle.command_words.specs.Commands.{wanted}
use Rattle.command_words.proofs.request.make_ask.Goals as goal

made_is_simple : is_simple_and_free ask_command ≡ true
unfolding ask_command clap_on_literals
made_is_simple = refl

pub returns : goal.returns
unfolding ask_command
returns c =
    let first = c.in_ok-command.ensures ∙ ap (λ a. with_rule a (wanted (codes "cert"))) c.new.ensures.app in
    let told = IfOk-weaker c.with_word-2.result _ _ (λ _ e. e ∙ ap (λ a. with_rule a (wanted (codes "atom"))) first) c.with_word-2.ensures in
    record { told = told; simple = IfOk-weaker c.with_word-2.result _ _ (λ _ e. ap is_simple_and_free e ∙ made_is_simple) told }
