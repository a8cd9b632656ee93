use Rattle.std.proofs.Common.{◌≡◌}
use Rattle.worked_solvers.proofs.questions.add_pigeons.Given as goal

abbrev pub invariant-loop-pigeon : goal.invariant-loop-pigeon
invariant-loop-pigeon g l = g.S.Solver.atoms l.solver ≡ g.S.Solver.atoms l.initial.solver
