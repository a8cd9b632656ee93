use Rattle.std.proofs.Common.{rules, ◌≡◌, ◌++◌, ◌∷◌, [], ap, ◌∙◌}
use Rattle.instgen_select.specs.Queues.{Turn_list}
use Rattle.instgen_select.specs.Slots.{waiting_of}
use Rattle.instgen_select.proofs.SlotLaws.{waiting_gap, item_waits}
use Rattle.instgen_select.proofs.NamingLaws.{gap_named, item_named}
use Rattle.instgen_select.proofs.turns.Turns.store.Goals as goal

pub invariant_of-self-in_err-push_all : goal.invariant_of-self-in_err-push_all
invariant_of-self-in_err-push_all c = gap_named c.self.inside.slots.items c.push-2.new.self.items c.self.inside.heaps c.push_all.new.heaps c.self.invariant c.in_ok-push-2.ensures.items c.push_all.ensures.kept

pub returns-in_err-push_all-clause-err : goal.returns-in_err-push_all-clause-err
returns-in_err-push_all-clause-err c =
    let e : waiting_of c.push-2.new.self.items ≡ c.args.self.now.items = ap waiting_of c.in_ok-push-2.ensures.items ∙ waiting_gap c.self.inside.slots.items ∙ ap (λ (s : Turn_list). s.items) c.self.view_is in
    search rules

pub invariant_of-self-2 : goal.invariant_of-self-2
invariant_of-self-2 c =
    item_named c.self.inside.slots.items c.push-2.new.self.items c.self.inside.heaps c.push_all.new.heaps c.len-slot.result c.in_ok-place.place (record { number = c.args.arrival.now.number; size = c.args.arrival.now.size })
    c.self.invariant c.in_ok-push-2.ensures.items (search rules) c.in_ok-place.ensures c.push_all.ensures.kept c.in_ok-push_all.ensures.named

pub returns-clause-ok : goal.returns-clause-ok
returns-clause-ok c =
    item_waits c.self.inside.slots.items c.push-2.new.self.items c.len-slot.result (record { number = c.args.arrival.now.number; size = c.args.arrival.now.size }) c.in_ok-push-2.ensures.items (search rules)
    ∙ ap (λ (s : Turn_list). s.items ++ (c.args.arrival.now.number, c.args.arrival.now.size) ∷ []) c.self.view_is
