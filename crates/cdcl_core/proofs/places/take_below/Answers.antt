use Rattle.std.proofs.Common.{heap_items, arith}
use Rattle.cdcl_core.proofs.PlaceLaws.{taken, popped_other, popped_rest}
use Rattle.cdcl_core.proofs.places.take_below.Goals as goal

pub loop-place-preserved : goal.loop-place-preserved
loop-place-preserved c =
    let i = c.loop-place.invariant in
    let h = c.in-Some.ensures in
    let heap = heap_items c.loop-place.heap in
    let rest = heap_items c.pop.new.self in
    let x = c.in-Some.place in
    record {
      order = (h.heap_order i.order).0;
      kept = λ k low first. popped_other heap rest x k h.permutation (λ same. omega (arith, low, same, c.if-place-limit.false)) (i.kept k low first);
      old = λ k inside. i.old k (popped_rest heap rest x k h.permutation inside);
    }

pub returns-then-place-limit-clause-some : goal.returns-then-place-limit-clause-some
returns-then-place-limit-clause-some c =
    let i = c.loop-place.invariant in
    let h = c.in-Some.ensures in
    taken c.args.limit (heap_items c.args.heap.now) (heap_items c.loop-place.heap) (heap_items c.pop.new.self) c.in-Some.place i.kept i.old h.permutation (h.heap_order i.order).1 c.if-place-limit.true

pub returns-clause-none : goal.returns-clause-none
returns-clause-none c k low first =
    let inside = c.loop-place.invariant.kept k low first in
    absurd (omega (arith, inside.1, c.in_default.ensures.none, c.loop-place.heap.data.ok.0))
