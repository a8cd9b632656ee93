use Rattle.std.proofs.Common.{◌≡◌}
use Rattle.cdcl_trail.specs.Attached.{AreAttached}
use Rattle.cdcl_trail.specs.Clauses.{ClausesBelow}
use Rattle.worked_solvers.proofs.trails.make_all.Given as goal

abbrev pub invariant-loop-call : goal.invariant-loop-call
invariant-loop-call l = record {
  attached : AreAttached l.trail l.clauses;
  below : ClausesBelow l.trail.trail.atoms l.clauses;
  atoms : l.trail.trail.atoms ≡ 4;
}
