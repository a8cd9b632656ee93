use Rattle.std.proofs.Common.{◌<◌, ℕ, arith, sym, subst}
use Rattle.std.proofs.lemmas.List.Elements.{All-weaker}
use Rattle.inst_logic.specs.declared.signed.Signed.{Signed}
use Rattle.prop_logic.specs.Literal.{AtomsBelow}
use Rattle.instgen_loop.proofs.first_values.add_clause.Goals as goal

pub add-requires : goal.add-requires
add-requires g c =
    let n = g.S.Solver.atoms c.reach.new.solver in
    let more = c.in_ok-reached.ensures.reached in
    subst (AtomsBelow n) (sym c.as_slice.ensures.value)
    (All-weaker (λ (l : Signed ℕ). l.atom < c.in_ok-count.count) (λ (l : Signed ℕ). l.atom < n) (λ (l : Signed ℕ) low. omega (arith, low, more)) c.predicates_of.new.lits.items c.in_ok-count.ensures)
