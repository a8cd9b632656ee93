use Rattle.std.proofs.Common.{◌++◌, refl, sym, subst, map, ℕ, List, []}
use Rattle.inst_logic.specs.declared.signed.Signed.{Signed}
use Rattle.inst_logic.specs.Clauses.{canonical_form, instance}
use Rattle.term_bank.specs.Forest.{IsClauseAt, IsClauseOf, clause_at}
use Rattle.unify_core.specs.Sides.{of_side}
use Rattle.unify_core.specs.declared.side.Variable.{Variable}
use Rattle.clause_form.specs.declared.walk.Leaves.TheVariants.{Led}
use Rattle.unify_core.proofs.Lists.{if_ok}
use Rattle.clause_form.specs.Walks.{numbers_of}
use Rattle.clause_form.proofs.Readings.{atoms_within}
use Rattle.cert_inference.specs.Comparisons.{IsStep, pairs_of}
use Rattle.cert_inference.proofs.ComparisonLaws.{clause_seen}
use Rattle.cert_inference.proofs.comparison.is_conclusion.Goals as goal

pub compare_atoms-requires-clause-nodes : goal.compare_atoms-requires-clause-nodes
compare_atoms-requires-clause-nodes c =
    let f = c.args.bank.now in
    let ls = c.as_slice-literals.result.now in
    atoms_within f ls (map (λ (l : Signed ℕ). l.atom) ls) refl (subst (IsClauseOf f) (sym c.as_slice-literals.ensures) c.requires.member)

pub compare_atoms-requires-clause-terms : goal.compare_atoms-requires-clause-terms
compare_atoms-requires-clause-terms c =
    let f = c.args.bank.now in
    let ks = c.as_slice-others.result.now in
    atoms_within f ks (map (λ (l : Signed ℕ). l.atom) ks) refl (subst (IsClauseOf f) (sym c.as_slice-others.ensures) c.requires.clause)

pub returns : goal.returns
returns c =
    let f = c.args.bank.now in
    let ls = c.as_slice-literals.result.now in
    let ks = c.as_slice-others.result.now in
    let of = c.args.of.now in
    let alike = c.if-not-looks_alike.ensures refl in
    if_ok _ _ c.compare_atoms.result c.compare_atoms.ensures
    (λ r k t s resolved.
    let step = subst (λ (xs : List Variable). IsStep f (Led of.bindings) (pairs_of of.side (map (λ (l : Signed ℕ). l.atom) ls) (map (λ (l : Signed ℕ). l.atom) ks) ++ []) [] (numbers_of xs) (numbers_of c.compare_atoms.new.room.order.items)) c.clear.ensures.items (k t [] of.bindings refl) in
    let seen = clause_seen f of.bindings of.side ls ks (numbers_of c.compare_atoms.new.room.order.items) c.distinct.ensures (subst (IsClauseOf f) (sym c.as_slice-others.ensures) c.requires.clause) alike.0 alike.1 step s resolved in
    subst (λ (xs : List (Signed ℕ)). IsClauseAt f c.args.clause.now (canonical_form (instance (of_side s of.side) (clause_at f xs)))) c.as_slice-literals.ensures
    (subst (λ (ys : List (Signed ℕ)). IsClauseAt f ys (canonical_form (instance (of_side s of.side) (clause_at f ls)))) c.as_slice-others.ensures seen))
