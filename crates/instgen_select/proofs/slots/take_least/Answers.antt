use Rattle.std.proofs.Common.{rules}
use Rattle.std.specs.BinaryHeap.{heap_items}
use Rattle.instgen_select.proofs.SlotLaws.{least_some, ranking_after}
use Rattle.instgen_select.proofs.slots.take_least.Goals as goal

pub returns-then-is_some-clause-some : goal.returns-then-is_some-clause-some
returns-then-is_some-clause-some c =
    least_some c.take_at-taken.result c.loop-place.slots.items c.take_at-taken.new.slots.items c.args.slots.now.items (heap_items c.loop-place.heap) (heap_items c.pop.new.self) c.in-Some.field-0
    c.loop-place.invariant.0 c.loop-place.invariant.1 c.in-Some.ensures.permutation c.in-Some.ensures.heap_order c.take_at-taken.ensures.some

pub returns-then-is_some-clause-ranking : goal.returns-then-is_some-clause-ranking
returns-then-is_some-clause-ranking c =
    ranking_after c.take_at-taken.result c.loop-place.slots.items c.take_at-taken.new.slots.items (heap_items c.loop-place.heap) (heap_items c.pop.new.self) c.in-Some.field-0
    c.loop-place.invariant.1 c.in-Some.ensures.permutation c.in-Some.ensures.heap_order c.take_at-taken.ensures.some c.take_at-taken.ensures.none

pub loop-place-preserved : goal.loop-place-preserved
loop-place-preserved c = (
  search rules,
  ranking_after c.take_at-taken.result c.loop-place.slots.items c.take_at-taken.new.slots.items (heap_items c.loop-place.heap) (heap_items c.pop.new.self) c.in-Some.field-0
      c.loop-place.invariant.1 c.in-Some.ensures.permutation c.in-Some.ensures.heap_order c.take_at-taken.ensures.some c.take_at-taken.ensures.none,
)
