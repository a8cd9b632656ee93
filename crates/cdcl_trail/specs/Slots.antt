-- What a packed slot says.
use Rattle.std.specs.Prelude.{Option, Some, None}
use Rattle.cdcl_trail.specs.declared.entry.Entry.{Entry}
use Rattle.cdcl_trail.specs.declared.entry_table.State.{State}
use Rattle.cdcl_trail.specs.declared.entry_table.State.TheVariants.{Unset, Decided, Implied}
use Rattle.cdcl_trail.specs.declared.entry_table.Slot.{Slot}

abbrev pub entry_by : State → Slot → Option Entry
entry_by Unset s = None
entry_by Decided s = Some (record { lit = record { positive = s.positive; atom = s.atom }; level = s.level; reason = None })
entry_by Implied s = Some (record { lit = record { positive = s.positive; atom = s.atom }; level = s.level; reason = Some s.reason })

-- the entry in the slot, if its atom has a value
abbrev pub entry_in : Slot → Option Entry
entry_in s = entry_by s.state s
