use Rattle.std.proofs.Common.{◌≡◌, ◌-◌, ◌≤◌, length}
use Rattle.instgen_select.specs.Slots.{AreGapsBefore}
use Rattle.instgen_select.proofs.slots.take_oldest.Given as goal

abbrev pub invariant-loop-front : goal.invariant-loop-front
invariant-loop-front l = (l.slots.items ≡ l.fn.slots.items) × AreGapsBefore l.slots.items l.front × (l.front ≤ length l.slots.items)

abbrev pub decreases-loop-front : goal.decreases-loop-front
decreases-loop-front l = length l.slots.items - l.front
