use Rattle.std.proofs.Common.{◌≡◌, ◌≤◌, length}
use Rattle.std.specs.Prelude.{AllPairs}
use Rattle.cdcl_trail.specs.Trail.{entries_up_to}
use Rattle.cdcl_trail.specs.Values.{AreValues, entries_of}
use Rattle.cdcl_trail.proofs.values.Values.back_to.Given as goal

abbrev pub invariant-loop-self : goal.invariant-loop-self
invariant-loop-self l = record {
  values : AreValues l.self;
  rising : AllPairs (λ a b. a.level ≤ b.level) (entries_of l.self);
  up_to : entries_up_to (entries_of l.self) l.level ≡ entries_up_to (entries_of l.initial.self) l.level;
  atoms : length l.self.entries.items ≡ length l.initial.self.entries.items;
}

abbrev pub decreases-loop-self : goal.decreases-loop-self
decreases-loop-self l = length (entries_of l.self)
