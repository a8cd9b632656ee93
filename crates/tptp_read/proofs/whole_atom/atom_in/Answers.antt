use Rattle.std.proofs.Common.{◌≡◌, refl, ap, subst, ◌∙◌, arith}
use Rattle.tptp_read.specs.Atoms.{HasNoTokens, AreTokens, too_deep, nesting_within}
use Rattle.tptp_read.specs.AtomReading.{AtomOf}
use Rattle.tptp_read.specs.LexemeView.{toks}
use Rattle.tptp_read.proofs.WholeAtoms.{some_of, cause_of}
use Rattle.tptp_read.proofs.whole_atom.atom_in.Goals as goal

pub returns-then-nesting_within-gt-MOST_NESTING-clause-refused : goal.returns-then-nesting_within-gt-MOST_NESTING-clause-refused
returns-then-nesting_within-gt-MOST_NESTING-clause-refused c =
    let text = c.args.text.now in
    let ts = toks c.in-Some.tokens.items in
    let are = some_of (HasNoTokens text) (λ v. AreTokens text (toks v.items)) c.in_ok-tokens.field-0 c.in-Some.tokens c.in-Some.is c.in_ok-tokens.ensures in
    let count : c.nesting_within.result ≡ nesting_within ts = c.nesting_within.ensures ∙ ap (λ ls. nesting_within (toks ls)) c.as_slice.ensures.value in
    (refl, too_deep ts are (omega (arith, count, c.if-nesting_within-gt-MOST_NESTING.true)) refl)

pub returns-clause-refused : goal.returns-clause-refused
returns-clause-refused c =
    let text = c.args.text.now in
    let ts = toks c.in-Some.tokens.items in
    let are = some_of (HasNoTokens text) (λ v. AreTokens text (toks v.items)) c.in_ok-tokens.field-0 c.in-Some.tokens c.in-Some.is c.in_ok-tokens.ensures in
    let count : c.nesting_within.result ≡ nesting_within ts = c.nesting_within.ensures ∙ ap (λ ls. nesting_within (toks ls)) c.as_slice.ensures.value in
    cause_of text ts c.atom_of.result are (omega (arith, count, c.if-nesting_within-gt-MOST_NESTING.false)) (subst (λ ls. AtomOf (toks ls) c.atom_of.result) c.as_slice-2.ensures.value c.atom_of.ensures)
