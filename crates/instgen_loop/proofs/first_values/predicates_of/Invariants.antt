use Rattle.prop_logic.specs.Literal.{AtomsBelow}
use Rattle.instgen_loop.proofs.first_values.predicates_of.Given as goal

abbrev pub invariant-loop-l : goal.invariant-loop-l
invariant-loop-l l = AtomsBelow l.count l.lits.items
