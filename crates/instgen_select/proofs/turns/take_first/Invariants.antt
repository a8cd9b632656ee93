use Rattle.std.proofs.Common.{◌≡◌}
use Rattle.std.specs.BinaryHeap.{heap_items, heap_len}
use Rattle.instgen_select.specs.Naming.{IsNaming}
use Rattle.instgen_select.proofs.turns.take_first.Given as goal

abbrev pub invariant-loop-place : goal.invariant-loop-place
invariant-loop-place l = (l.slots.items ≡ l.fn.slots.items) × IsNaming l.slots.items (heap_items l.heap)

abbrev pub decreases-loop-place : goal.decreases-loop-place
decreases-loop-place l = heap_len l.heap
