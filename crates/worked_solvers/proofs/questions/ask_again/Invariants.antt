use Rattle.std.proofs.Common.{◌≡◌}
use Rattle.worked_solvers.proofs.questions.ask_again.Given as goal

abbrev pub invariant-loop : goal.invariant-loop
invariant-loop g l = g.S.Solver.atoms l.solver ≡ g.S.Solver.atoms l.initial.solver
