use Rattle.std.proofs.Common.{◌-◌, ◌*◌}
use Rattle.std.specs.List.Sorted.{IsStrictlyIncreasing}
use Rattle.prop_logic.specs.Valuation.{AreChangesBelow}
use Rattle.prop_logic.proofs.differences.changes.Given as goal

abbrev pub invariant-loop-place : goal.invariant-loop-place
invariant-loop-place l = record { before : AreChangesBelow (64 * l.place) l.old l.new l.changes.items; rising : IsStrictlyIncreasing l.changes.items }

abbrev pub decreases-loop-place : goal.decreases-loop-place
decreases-loop-place l = l.count - l.place
