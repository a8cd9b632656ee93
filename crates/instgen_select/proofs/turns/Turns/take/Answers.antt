use Rattle.std.proofs.Common.{◌≡◌, [], subst, IfSome, IfNone}
use Rattle.instgen_select.specs.Queues.{Turn_list, IsTakenOut}
use Rattle.instgen_select.specs.Slots.{waiting_of}
use Rattle.instgen_select.proofs.SlotLaws as slots
use Rattle.instgen_select.proofs.NamingLaws.{some_taken}
use Rattle.instgen_select.proofs.turns.Turns.take.Goals as goal

pub returns-clause-none : goal.returns-clause-none
returns-clause-none c =
    subst (λ (s : Turn_list). IfNone c.take_of.result ((s.items ≡ []) × (waiting_of c.take_of.new.slots.items ≡ s.items))) c.self.view_is
    (slots.none_waits c.take_of.result c.self.inside.slots.items c.take_of.new.slots.items c.take_of.ensures.none)

pub returns-clause-some : goal.returns-clause-some
returns-clause-some c =
    subst (λ (s : Turn_list). IfSome c.take_of.result (λ item. IsTakenOut s.items (waiting_of c.take_of.new.slots.items) item.number)) c.self.view_is
    (some_taken c.take_of.result c.self.inside.slots.items c.take_of.new.slots.items c.take_of.ensures.some)
