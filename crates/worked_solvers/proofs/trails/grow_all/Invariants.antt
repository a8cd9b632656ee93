use Rattle.std.proofs.Common.{◌≡◌}
use Rattle.cdcl_trail.specs.Attached.{AreAttached}
use Rattle.worked_solvers.proofs.trails.grow_all.Given as goal

abbrev pub invariant-loop : goal.invariant-loop
invariant-loop l = record {
  attached : AreAttached l.trail l.clauses;
  atoms : l.trail.trail.atoms ≡ l.counter;
  entries : l.trail.trail.entries ≡ l.initial.trail.trail.entries;
}
