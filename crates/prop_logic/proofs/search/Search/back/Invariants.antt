use Rattle.std.proofs.Common.{◌≡◌, length, take}
use Rattle.prop_logic.specs.Search.{IsSearch, IsConflict}
use Rattle.prop_logic.proofs.search.Search.back.Given as goal

abbrev pub invariant-loop-alloc : goal.invariant-loop-alloc
invariant-loop-alloc l = record {
  search : IsSearch l.clauses l.assumptions l.self;
  atoms : l.self.atoms ≡ l.initial.self.atoms;
  conflict : IsConflict l.clauses l.self.steps l.assumptions l.self.entries.items l.conflict;
  entries : l.self.entries.items ≡ take (length l.self.entries.items) l.initial.self.entries.items;
}

abbrev pub decreases-loop-alloc : goal.decreases-loop-alloc
decreases-loop-alloc l = length l.self.entries.items
