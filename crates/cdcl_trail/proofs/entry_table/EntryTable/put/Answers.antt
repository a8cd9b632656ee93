use Rattle.std.proofs.Common.{map, set, Some, ap, ◌∙◌}
use Rattle.std.proofs.lemmas.List.{map-set}
use Rattle.cdcl_trail.specs.EntriesByAtom.{EntriesByAtom}
use Rattle.cdcl_trail.specs.Slots.{entry_in}
use Rattle.cdcl_trail.specs.declared.entry_table.Slot.{Slot}
use Rattle.cdcl_trail.proofs.entry_table.EntryTable.put.Goals as goal

pub returns-clause-items : goal.returns-clause-items
returns-clause-items c =
    let slots = c.self.inside.slots.items in
    let e = c.args.entry in
    map-set entry_in slots e.lit.atom c.slot_of.result ∙ ap (set (map entry_in slots) e.lit.atom) c.slot_of.ensures.entry ∙ ap (λ (t : EntriesByAtom). set t.items e.lit.atom (Some e)) c.self.view_is

pub returns-clause-places : goal.returns-clause-places
returns-clause-places c =
    let slots = c.self.inside.slots.items in
    let a = c.args.entry.lit.atom in
    map-set (λ (s : Slot). s.place) slots a c.slot_of.result ∙ ap (set (map (λ (s : Slot). s.place) slots) a) c.slot_of.ensures.place ∙ ap (λ (t : EntriesByAtom). set t.places a c.args.place) c.self.view_is
