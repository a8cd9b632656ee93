use Rattle.prop_logic.specs.Literal.{AllAtomsBelow}
use Rattle.worked_solvers.proofs.questions.all_signs.Given as goal

abbrev pub invariant-loop-bits : goal.invariant-loop-bits
invariant-loop-bits l = AllAtomsBelow 3 l.clauses
