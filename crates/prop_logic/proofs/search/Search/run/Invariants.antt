use Rattle.std.proofs.Common.{◌≡◌, ◌-◌, ◌^◌}
use Rattle.prop_logic.specs.Search.{IsSearch, weight}
use Rattle.prop_logic.proofs.search.Search.run.Given as goal

abbrev pub invariant-loop-outcome : goal.invariant-loop-outcome
invariant-loop-outcome l = record { search : IsSearch l.clauses l.assumptions l.self; atoms : l.self.atoms ≡ l.fn.self.atoms }

abbrev pub decreases-loop-outcome : goal.decreases-loop-outcome
decreases-loop-outcome l = 3 ^ l.self.atoms - weight l.self.atoms l.self.entries.items
