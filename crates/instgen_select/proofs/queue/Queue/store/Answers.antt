use Rattle.std.proofs.Common.{rules, ◌≡◌, ◌++◌, ◌∷◌, [], ap, ◌∙◌, refl}
use Rattle.std.specs.BinaryHeap.{heap_items}
use Rattle.instgen_select.specs.Queues.{Waiting_list}
use Rattle.instgen_select.specs.Slots.{waiting_of}
use Rattle.instgen_select.proofs.SlotLaws.{waiting_gap, gap_stored, item_stored, item_waits}
use Rattle.instgen_select.proofs.queue.Queue.store.Goals as goal

pub invariant_of-self-in_err-push-2 : goal.invariant_of-self-in_err-push-2
invariant_of-self-in_err-push-2 c =
    gap_stored c.self.inside.slots.items c.push.new.self.items c.self.inside.front (heap_items c.self.inside.heap) (heap_items c.push-2.new.self) c.self.invariant c.in_ok-push.ensures.items
    c.in_err-push-2.ensures.unchanged.0

pub returns-in_err-push-2-clause-err : goal.returns-in_err-push-2-clause-err
returns-in_err-push-2-clause-err c =
    let e : waiting_of c.push.new.self.items ≡ c.args.self.now.items = ap waiting_of c.in_ok-push.ensures.items ∙ waiting_gap c.self.inside.slots.items ∙ ap (λ (s : Waiting_list). s.items) c.self.view_is in
    search rules

pub invariant_of-self-2 : goal.invariant_of-self-2
invariant_of-self-2 c =
    item_stored c.self.inside.slots.items c.push.new.self.items c.self.inside.front c.len-place.result (heap_items c.self.inside.heap) (heap_items c.push-2.new.self) _ c.args.item
    c.self.invariant c.in_ok-push.ensures.items (search rules) c.in_ok-push-2.ensures.permutation c.in_ok-push-2.ensures.heap_order refl

pub returns-clause-ok : goal.returns-clause-ok
returns-clause-ok c =
    item_waits c.self.inside.slots.items c.push.new.self.items c.len-place.result c.args.item c.in_ok-push.ensures.items (search rules)
    ∙ ap (λ (s : Waiting_list). s.items ++ (c.args.item.number, c.args.item.size) ∷ []) c.self.view_is
