use Rattle.std.proofs.Common.{rules}
use Rattle.std.specs.BinaryHeap.{heap_items}
use Rattle.instgen_select.proofs.NamingLaws.{one_taken, naming_after}
use Rattle.instgen_select.proofs.turns.take_first.Goals as goal

pub returns-then-is_some-clause-some : goal.returns-then-is_some-clause-some
returns-then-is_some-clause-some c =
    one_taken c.take_at-taken.result c.loop-place.slots.items c.take_at-taken.new.slots.items c.args.slots.now.items c.in-Some.field-0.0.3 c.loop-place.invariant.0 c.take_at-taken.ensures.some

pub returns-then-is_some-clause-naming : goal.returns-then-is_some-clause-naming
returns-then-is_some-clause-naming c =
    naming_after c.take_at-taken.result c.loop-place.slots.items c.take_at-taken.new.slots.items (heap_items c.loop-place.heap) (heap_items c.pop.new.self) c.in-Some.field-0
    c.loop-place.invariant.1 c.in-Some.ensures.permutation c.take_at-taken.ensures.some c.take_at-taken.ensures.none

pub loop-place-preserved : goal.loop-place-preserved
loop-place-preserved c = (
  search rules,
  naming_after c.take_at-taken.result c.loop-place.slots.items c.take_at-taken.new.slots.items (heap_items c.loop-place.heap) (heap_items c.pop.new.self) c.in-Some.field-0
      c.loop-place.invariant.1 c.in-Some.ensures.permutation c.take_at-taken.ensures.some c.take_at-taken.ensures.none,
)
