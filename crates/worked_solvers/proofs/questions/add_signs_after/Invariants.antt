use Rattle.std.proofs.Common.{◌≡◌}
use Rattle.worked_solvers.proofs.questions.add_signs_after.Given as goal

abbrev pub invariant-loop-bits : goal.invariant-loop-bits
invariant-loop-bits g l = g.S.Solver.atoms l.solver ≡ g.S.Solver.atoms l.initial.solver
