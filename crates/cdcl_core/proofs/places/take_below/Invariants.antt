use Rattle.std.proofs.Common.{ℕ, ◌<◌, heap_items, heap_len}
use Rattle.std.specs.Prelude.{Contains}
use Rattle.std.specs.BinaryHeap.{IsHeap}
use Rattle.std.specs.Ordering.{nat_cmp}
use Rattle.cdcl_core.proofs.places.take_below.Given as goal

abbrev pub invariant-loop-place : goal.invariant-loop-place
invariant-loop-place l = record {
  order : IsHeap nat_cmp (heap_items l.heap);
  kept : (k : ℕ) → k < l.limit → Contains (heap_items l.initial.heap) k → Contains (heap_items l.heap) k;
  old : (k : ℕ) → Contains (heap_items l.heap) k → Contains (heap_items l.initial.heap) k;
}

abbrev pub decreases-loop-place : goal.decreases-loop-place
decreases-loop-place l = heap_len l.heap
