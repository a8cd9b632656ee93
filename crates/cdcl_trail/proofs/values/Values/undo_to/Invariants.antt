use Rattle.std.proofs.Common.{◌≡◌, length, take}
use Rattle.cdcl_trail.specs.Values.{AreValues, entries_of}
use Rattle.cdcl_trail.proofs.values.Values.undo_to.Given as goal

abbrev pub invariant-loop-self : goal.invariant-loop-self
invariant-loop-self l = record {
  values : AreValues l.self;
  entries : take l.count (entries_of l.self) ≡ take l.count (entries_of l.initial.self);
  atoms : length l.self.entries.items ≡ length l.initial.self.entries.items;
}

abbrev pub decreases-loop-self : goal.decreases-loop-self
decreases-loop-self l = length l.self.literals.items
