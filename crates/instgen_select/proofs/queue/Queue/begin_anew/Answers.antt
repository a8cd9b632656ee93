use Rattle.std.proofs.Common.{rules, ◌≡◌, length, ap, sym, ◌∙◌}
use Rattle.std.specs.BinaryHeap.{heap_items}
use Rattle.instgen_select.specs.Queues.{Waiting_list}
use Rattle.instgen_select.specs.Slots.{waiting_of}
use Rattle.instgen_select.proofs.SlotLaws.{nothing_waits}
use Rattle.instgen_select.proofs.queue.Queue.begin_anew.Goals as goal

pub returns-else-len-gt-FEW-clause-items : goal.returns-else-len-gt-FEW-clause-items
returns-else-len-gt-FEW-clause-items c =
    let none : length (heap_items c.self.inside.heap) ≡ 0 = search rules in
    ap waiting_of c.clear.ensures.items ∙ sym (nothing_waits c.self.inside.slots.items (heap_items c.self.inside.heap) none c.self.invariant.ranking) ∙ ap (λ (s : Waiting_list). s.items) c.self.view_is

pub returns-then-len-gt-FEW-clause-items : goal.returns-then-len-gt-FEW-clause-items
returns-then-len-gt-FEW-clause-items c =
    let none : length (heap_items c.self.inside.heap) ≡ 0 = search rules in
    ap waiting_of c.new.ensures.items ∙ sym (nothing_waits c.self.inside.slots.items (heap_items c.self.inside.heap) none c.self.invariant.ranking) ∙ ap (λ (s : Waiting_list). s.items) c.self.view_is
