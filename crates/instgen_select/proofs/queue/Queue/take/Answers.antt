use Rattle.std.proofs.Common.{◌≡◌, [], subst, sym, IfSome, IfNone}
use Rattle.std.specs.BinaryHeap.{heap_items}
use Rattle.instgen_select.specs.Queues.{Waiting_list, IsPicked}
use Rattle.instgen_select.specs.Slots.{waiting_of}
use Rattle.instgen_select.proofs.SlotLaws.{slots_after_oldest, slots_after_least, some_oldest, some_least, none_waits}
use Rattle.instgen_select.proofs.queue.Queue.take.Goals as goal

pub invariant_of-self : goal.invariant_of-self
invariant_of-self c =
    slots_after_oldest c.take_oldest.result c.self.inside.slots.items c.take_oldest.new.slots.items c.self.inside.front c.take_oldest.new.front (heap_items c.self.inside.heap)
    c.self.invariant c.take_oldest.ensures.some c.take_oldest.ensures.none c.take_oldest.ensures.gaps c.take_oldest.ensures.within

pub invariant_of-self-else-oldest : goal.invariant_of-self-else-oldest
invariant_of-self-else-oldest c =
    slots_after_least c.take_least.result c.self.inside.slots.items c.take_least.new.slots.items c.self.inside.front (heap_items c.self.inside.heap) (heap_items c.take_least.new.heap)
    c.self.invariant c.take_least.ensures.some c.take_least.ensures.none c.take_least.ensures.ranking

pub returns-then-oldest-clause-none : goal.returns-then-oldest-clause-none
returns-then-oldest-clause-none c =
    subst (λ (s : Waiting_list). IfNone c.take_oldest.result ((s.items ≡ []) × (waiting_of c.take_oldest.new.slots.items ≡ s.items))) c.self.view_is
    (none_waits c.take_oldest.result c.self.inside.slots.items c.take_oldest.new.slots.items c.take_oldest.ensures.none)

pub returns-then-oldest-clause-some : goal.returns-then-oldest-clause-some
returns-then-oldest-clause-some c =
    subst (λ (s : Waiting_list). IfSome c.take_oldest.result (λ item. IsPicked c.args.oldest s.items (waiting_of c.take_oldest.new.slots.items) item.number)) c.self.view_is
    (subst (λ b. IfSome c.take_oldest.result (λ item. IsPicked b (waiting_of c.self.inside.slots.items) (waiting_of c.take_oldest.new.slots.items) item.number)) (sym c.if-oldest.true)
    (some_oldest c.take_oldest.result c.self.inside.slots.items c.take_oldest.new.slots.items c.take_oldest.ensures.some))

pub returns-else-oldest-clause-none : goal.returns-else-oldest-clause-none
returns-else-oldest-clause-none c =
    subst (λ (s : Waiting_list). IfNone c.take_least.result ((s.items ≡ []) × (waiting_of c.take_least.new.slots.items ≡ s.items))) c.self.view_is
    (none_waits c.take_least.result c.self.inside.slots.items c.take_least.new.slots.items c.take_least.ensures.none)

pub returns-else-oldest-clause-some : goal.returns-else-oldest-clause-some
returns-else-oldest-clause-some c =
    subst (λ (s : Waiting_list). IfSome c.take_least.result (λ item. IsPicked c.args.oldest s.items (waiting_of c.take_least.new.slots.items) item.number)) c.self.view_is
    (subst (λ b. IfSome c.take_least.result (λ item. IsPicked b (waiting_of c.self.inside.slots.items) (waiting_of c.take_least.new.slots.items) item.number)) (sym c.if-oldest.false)
    (some_least c.take_least.result c.self.inside.slots.items c.take_least.new.slots.items c.take_least.ensures.some))
