use Rattle.std.proofs.Common.{◌≡◌}
use Rattle.worked_solvers.proofs.questions.add_hole.Given as goal

abbrev pub invariant-loop-one : goal.invariant-loop-one
invariant-loop-one g l = g.S.Solver.atoms l.solver ≡ g.S.Solver.atoms l.initial.solver
