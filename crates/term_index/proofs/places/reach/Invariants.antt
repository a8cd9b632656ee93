use Rattle.std.proofs.Common.{◌≡◌, ◌++◌, ◌-◌, ◌+◌, length, List, ℕ}
use Rattle.term_index.proofs.places.reach.Given as goal

abbrev pub invariant-loop-ends : goal.invariant-loop-ends
invariant-loop-ends l = record { kept : (more : List ℕ) × (l.ends.items ≡ l.fn.ends.items ++ more) }

abbrev pub decreases-loop-ends : goal.decreases-loop-ends
decreases-loop-ends l = l.fn.end + 1 - length l.ends.items
