use Rattle.std.proofs.Common.{◌-◌, length}
use Rattle.cdcl_trail.specs.Watch.{slot_of, list_at}
use Rattle.cdcl_trail.specs.Detach.{IsUnwatchedTo}
use Rattle.cdcl_trail.proofs.detach.unwatch_one.Given as goal

abbrev pub invariant-loop-place : goal.invariant-loop-place
invariant-loop-place l = IsUnwatchedTo l.n (slot_of l.l) l.place l.initial.lists l.lists

abbrev pub decreases-loop-place : goal.decreases-loop-place
decreases-loop-place l = length (list_at l.lists (slot_of l.l)) - l.place
