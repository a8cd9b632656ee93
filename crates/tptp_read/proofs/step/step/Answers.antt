use Rattle.std.proofs.Common.{◌≤◌, Err, drop, sym, ap, subst, ◌∙◌, refl, arith}
use Rattle.std.proofs.lemmas.Result.{err_from_is_err_and}
use Rattle.tptp_read.specs.LexemeView.{toks}
use Rattle.tptp_read.specs.Fronts.{FrontOf}
use Rattle.tptp_read.specs.Rules.{nesting, other_language, too_deep}
use Rattle.tptp_read.specs.Verdicts.{verdict, Tells}
use Rattle.tptp_read.proofs.Verdicts.{reads, refusal_faults}
use Rattle.tptp_read.proofs.step.step.Goals as goal

pub returns-in-Language : goal.returns-in-Language
returns-in-Language c =
    let h = subst (FrontOf c.args.text.now) c.in-Language.is c.in_ok-front_of.ensures in
    (h.0, other_language c.in-Language.word.now h.1 refl)

pub returns-then-nesting_of-gt-MOST_NESTING : goal.returns-then-nesting_of-gt-MOST_NESTING
returns-then-nesting_of-gt-MOST_NESTING c =
    let h = subst (FrontOf c.args.text.now) c.in-Whole.is c.in_ok-front_of.ensures in
    let deep : 257 ≤ nesting (toks c.in-Whole.tokens.items) = omega (arith, c.if-nesting_of-gt-MOST_NESTING.true, c.nesting_of.ensures, ap (λ ls. nesting (toks ls)) c.as_slice.ensures.value) in
    (h.0, too_deep h.1 (toks c.in-Whole.tokens.items) (drop c.in-Whole.end c.args.text.now) h.2 deep refl)

pub returns-in_ok-statement-in-Whole : goal.returns-in_ok-statement-in-Whole
returns-in_ok-statement-in-Whole c =
    let h = subst (FrontOf c.args.text.now) c.in-Whole.is c.in_ok-front_of.ensures in
    let flat : nesting (toks c.in-Whole.tokens.items) ≤ 256 = omega (arith, c.if-nesting_of-gt-MOST_NESTING.false, c.nesting_of.ensures, ap (λ ls. nesting (toks ls)) c.as_slice.ensures.value) in
    let told = ap (λ ls. verdict (toks ls)) (sym c.as_slice-in-Whole.ensures.value) ∙ c.in_ok-statement-in-Whole.ensures in
    (reads c.args.text.now (toks c.in-Whole.tokens.items) (drop c.in-Whole.end c.args.text.now) c.in_ok-statement-in-Whole.statement h.1 h.2 flat told, h.3)

pub returns-in_err-statement-in-Whole : goal.returns-in_err-statement-in-Whole
returns-in_err-statement-in-Whole c =
    let h = subst (FrontOf c.args.text.now) c.in-Whole.is c.in_ok-front_of.ensures in
    let flat : nesting (toks c.in-Whole.tokens.items) ≤ 256 = omega (arith, c.if-nesting_of-gt-MOST_NESTING.false, c.nesting_of.ensures, ap (λ ls. nesting (toks ls)) c.as_slice.ensures.value) in
    let why = c.in_err-statement-in-Whole.field-0.0 in
    let told = subst (λ ls. Tells (Err why) (verdict (toks ls))) c.as_slice-in-Whole.ensures.value c.in_err-statement-in-Whole.ensures in
    let p = err_from_is_err_and c.from_residual-in_err-statement-in-Whole.result c.from_residual-in_err-statement-in-Whole.ensures.1 in
    rw (p.1, p.2) (refusal_faults c.args.text.now (toks c.in-Whole.tokens.items) (drop c.in-Whole.end c.args.text.now) why h.0 h.1 h.2 flat told)
