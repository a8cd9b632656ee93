use Rattle.std.proofs.Common.{◌≡◌}
use Rattle.worked_solvers.proofs.questions.add_pairs_after.Given as goal

abbrev pub invariant-loop-other : goal.invariant-loop-other
invariant-loop-other g l = g.S.Solver.atoms l.solver ≡ g.S.Solver.atoms l.initial.solver
