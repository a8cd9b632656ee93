use Rattle.std.proofs.Common.{◌≡◌, ◌+◌}
use Rattle.prop_logic.proofs.solver.make_atoms.Given as goal

abbrev pub invariant-loop : goal.invariant-loop
invariant-loop g l = record {
  atoms : g.S.Solver.atoms l.solver ≡ g.S.Solver.atoms l.initial.solver + l.counter;
  added : g.S.Solver.added l.solver ≡ g.S.Solver.added l.initial.solver;
}
