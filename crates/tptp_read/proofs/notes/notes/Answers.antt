use Rattle.std.proofs.Common.{◌≡◌, ◌+◌, drop, length, sym, ap, ◌∙◌, arith}
use Rattle.tptp_read.specs.Parse.{begins_with, behind}
use Rattle.tptp_read.specs.LexemeView.{toks}
use Rattle.tptp_read.specs.Skim.{after_general, after_bracket}
use Rattle.tptp_read.proofs.Places.{behind_toks, toks_len}
use Rattle.tptp_read.proofs.Skimming.{note_absent, note_none, note_source, note_shut, note_list}
use Rattle.tptp_read.proofs.notes.notes.Goals as goal

pub returns-then-not-stands_at-clause-is : goal.returns-then-not-stands_at-clause-is
returns-then-not-stands_at-clause-is c =
    let ls = c.args.tokens.now in
    sym (note_absent (length ls) (toks (drop c.args.at ls)) (toks_len ls c.args.at) (sym c.stands_at.ensures.is ∙ c.if-not-stands_at.true))

pub returns-in_err-after-clause-is : goal.returns-in_err-after-clause-is
returns-in_err-after-clause-is c =
    let ls = c.args.tokens.now in
    let none = ap after_general (behind_toks c.args.at ls) ∙ sym c.in_err-after.ensures.is in
    rw c.from_residual.ensures (sym (note_none (length ls) (toks (drop c.args.at ls)) (toks_len ls c.args.at) (sym c.stands_at.ensures.is ∙ c.if-not-stands_at.false) none))

pub returns-then-not-stands_at-2-clause-is : goal.returns-then-not-stands_at-2-clause-is
returns-then-not-stands_at-2-clause-is c =
    let ls = c.args.tokens.now in
    let some = ap after_general (behind_toks c.args.at ls) ∙ sym c.in_ok-after.ensures.is in
    sym (note_source (length ls) (toks (drop c.args.at ls)) (toks (drop c.in_ok-after.after ls)) (toks_len ls c.args.at) (sym c.stands_at.ensures.is ∙ c.if-not-stands_at.false) some (sym c.stands_at-2.ensures.is ∙ c.if-not-stands_at-2.true))

pub returns-then-not-stands_at-3-clause-is : goal.returns-then-not-stands_at-3-clause-is
returns-then-not-stands_at-3-clause-is c =
    let ls = c.args.tokens.now in
    let some = ap after_general (behind_toks c.args.at ls) ∙ sym c.in_ok-after.ensures.is in
    let shut = ap (begins_with 91) (behind_toks c.in_ok-after.after ls) ∙ sym c.stands_at-3.ensures.is ∙ c.if-not-stands_at-3.true in
    sym (note_shut (length ls) (toks (drop c.args.at ls)) (toks (drop c.in_ok-after.after ls)) (toks_len ls c.args.at) (sym c.stands_at.ensures.is ∙ c.if-not-stands_at.false) some (sym c.stands_at-2.ensures.is ∙ c.if-not-stands_at-2.false) shut)

pub returns-clause-is : goal.returns-clause-is
returns-clause-is c =
    let ls = c.args.tokens.now in
    let after = c.in_ok-after.after in
    let some = ap after_general (behind_toks c.args.at ls) ∙ sym c.in_ok-after.ensures.is in
    let opened = ap (begins_with 91) (behind_toks after ls) ∙ sym c.stands_at-3.ensures.is ∙ c.if-not-stands_at-3.false in
    let sum : after + 1 + 1 ≡ after + 2 = omega arith in
    let two = ap behind (behind_toks after ls) ∙ behind_toks (after + 1) ls ∙ ap (λ k. toks (drop k ls)) sum in
    let whole = note_list (length ls) (toks (drop c.args.at ls)) (toks (drop after ls)) (toks_len ls c.args.at) (sym c.stands_at.ensures.is ∙ c.if-not-stands_at.false) some (sym c.stands_at-2.ensures.is ∙ c.if-not-stands_at-2.false) opened in
    c.bracket.ensures.is ∙ sym (whole ∙ ap after_bracket two)
