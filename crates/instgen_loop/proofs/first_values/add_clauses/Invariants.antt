use Rattle.std.proofs.Common.{◌≤◌}
use Rattle.instgen_loop.proofs.first_values.add_clauses.Given as goal

abbrev pub invariant-loop-i : goal.invariant-loop-i
invariant-loop-i g l = l.atoms ≤ g.S.Solver.atoms l.solver
