use Rattle.std.proofs.Common.{◌≡◌, ◌++◌, drop}
use Rattle.instgen_select.specs.Slots.{waiting_of}
use Rattle.instgen_select.proofs.turns.Turns.store_all.Given as goal

abbrev pub invariant-loop-i : goal.invariant-loop-i
invariant-loop-i l = (l.self.items ++ waiting_of (drop l.i l.slots) ≡ l.initial.self.items ++ waiting_of l.slots) × (l.self.spent ≡ l.initial.self.spent)
