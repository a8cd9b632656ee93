use Rattle.std.proofs.Common.{◌≡◌, ◌∙◌, ◌+◌, false, drop, get_or, sym, ap, arith}
use Rattle.std.specs.Prelude.{◌&&◌}
use Rattle.tptp_read.specs.Lexemes.{is_head}
use Rattle.tptp_read.specs.Parse.{begins_with, term_at}
use Rattle.tptp_read.specs.LexemeView.{tok, toks}
use Rattle.tptp_read.proofs.ParseLaws.{and_false}
use Rattle.tptp_read.proofs.Reading.{other, false_and, toks_at, toks_end, term_none}
use Rattle.tptp_read.proofs.AtomLaws.{truth_applied, truth_alone}
use Rattle.tptp_read.proofs.literals.truth_at.Goals as goal
use Rattle.tptp_read.proofs.literals.truth_at.Goals.{else-is_head-via-then-is_head+else-stands_at, else-is_head-via-else-is_head}

pub returns-then-at-tokens : goal.returns-then-at-tokens
returns-then-at-tokens c = λ d z e. let none = term_none d (toks (drop c.args.at c.args.tokens.now)) (toks_end c.args.tokens.now c.args.at c.if-at-tokens.true) in absurd cc

pub returns-then-stands_at : goal.returns-then-stands_at
returns-then-stands_at c = λ d z e.
    let ls = c.args.tokens.now in
    let at = c.args.at in
    let cut = toks_at ls at other (omega arith) in
    truth_applied d (tok (get_or ls at other)) (toks (drop (at + 1) ls)) z (sym c.is_head.ensures ∙ c.if-is_head.true) (sym c.stands_at.ensures.is ∙ c.if-stands_at.true) (ap (term_at d) (sym cut) ∙ e)

pub returns : goal.returns
returns c = λ d z e.
    let ls = c.args.tokens.now in
    let at = c.args.at in
    let cut = toks_at ls at other (omega arith) in
    let no_call : (is_head (tok (get_or ls at other)).kind && begins_with 40 (toks (drop (at + 1) ls))) ≡ false = elim c.else-is_head.branch [
      | else-is_head-via-then-is_head+else-stands_at w ↦ and_false _ _ (sym w.stands_at.ensures.is ∙ w.if-stands_at.false)
      | else-is_head-via-else-is_head w ↦ false_and _ _ (sym c.is_head.ensures ∙ w.if-is_head.false)
    ] in
    c.truth.ensures ∙ truth_alone d (tok (get_or ls at other)) (toks (drop (at + 1) ls)) z no_call (ap (term_at d) (sym cut) ∙ e)
