use Rattle.std.proofs.Common.{ℕ, List, ap, sym, ◌∙◌, subst}
use Rattle.std.proofs.lemmas.Result.{IfOk-weaker}
use Rattle.inst_logic.specs.declared.signed.Signed.{Signed}
use Rattle.inst_logic.specs.Clauses.{canonical_form}
use Rattle.inst_calculus.specs.Parts.{IsProperPart}
use Rattle.term_bank.specs.Forest.{IsClauseOf, clause_at}
use Rattle.cert_check.proofs.PartLaws.{chosen_trees, chosen_ids}
use Rattle.cert_check.proofs.part.is_part_of.Goals as goal

pub is_canonical_form-requires-clause-from : goal.is_canonical_form-requires-clause-from
is_canonical_form-requires-clause-from c =
    subst (IsClauseOf c.args.bank.now) (sym c.in_ok-literals.ensures) (chosen_ids c.args.bank.now c.args.whole.now c.args.keep.now c.requires.whole)

pub returns-clause-part : goal.returns-clause-part
returns-clause-part c =
    let f = c.args.bank.now in
    let whole = c.args.whole.now in
    let keep = c.args.keep.now in
    let proper = subst (λ (n : ℕ). IsProperPart n keep) c.len.ensures (c.is_proper_part.ensures.0 c.if-not-is_proper_part.false) in
    let trees = ap (λ (x : List (Signed ℕ)). canonical_form (clause_at f x)) c.in_ok-literals.ensures ∙ ap canonical_form (chosen_trees f whole keep) in
    IfOk-weaker c.is_canonical_form.result _ _ (λ b h. ((λ t. (proper, h.0 t ∙ trees)), (λ p. h.1 (p.1 ∙ sym trees)))) c.is_canonical_form.ensures.same
