use Rattle.std.proofs.Common.{◌≡◌}
use Rattle.instgen_run.proofs.ground.prefer_from.Given as goal

abbrev pub invariant-loop-atom : goal.invariant-loop-atom
invariant-loop-atom g l = record {
  atoms : g.S.Solver.atoms l.solver ≡ g.S.Solver.atoms l.fn.solver;
  added : g.S.Solver.added l.solver ≡ g.S.Solver.added l.fn.solver;
}
