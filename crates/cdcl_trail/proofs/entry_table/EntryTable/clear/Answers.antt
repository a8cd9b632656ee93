use Rattle.std.proofs.Common.{map, set, None, ap, ◌∙◌}
use Rattle.std.proofs.lemmas.List.{map-set}
use Rattle.cdcl_trail.specs.EntriesByAtom.{EntriesByAtom}
use Rattle.cdcl_trail.specs.Slots.{entry_in}
use Rattle.cdcl_trail.specs.declared.entry_table.Slot.{Slot}
use Rattle.cdcl_trail.proofs.entry_table.EntryTable.clear.Goals as goal

pub returns-clause-items : goal.returns-clause-items
returns-clause-items c =
    let slots = c.self.inside.slots.items in
    let a = c.args.atom in
    map-set entry_in slots a c.unset.result ∙ ap (set (map entry_in slots) a) c.unset.ensures.entry ∙ ap (λ (t : EntriesByAtom). set t.items a None) c.self.view_is

pub returns-clause-places : goal.returns-clause-places
returns-clause-places c =
    let slots = c.self.inside.slots.items in
    let a = c.args.atom in
    map-set (λ (s : Slot). s.place) slots a c.unset.result ∙ ap (set (map (λ (s : Slot). s.place) slots) a) c.unset.ensures.place ∙ ap (λ (t : EntriesByAtom). set t.places a 0) c.self.view_is
