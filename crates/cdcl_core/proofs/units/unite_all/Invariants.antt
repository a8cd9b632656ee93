use Rattle.std.proofs.Common.{◌≤◌, length}
use Rattle.cdcl_core.specs.Search.{IsLogMore}
use Rattle.cdcl_core.proofs.units.unite_all.Given as goal

abbrev pub invariant-loop-left : goal.invariant-loop-left
invariant-loop-left l = record {
  within : l.left ≤ length l.facts;
  more : IsLogMore l.trail.trail.atoms l.initial.log l.log;
}

abbrev pub decreases-loop-left : goal.decreases-loop-left
decreases-loop-left l = l.left
