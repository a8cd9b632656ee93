use Rattle.std.proofs.Common.{◌≡◌, ◌≤◌, ◌+◌, ◌-◌, ℕ, length}
use Rattle.cdcl_trail.specs.Watch.{pair_at}
use Rattle.cdcl_trail.proofs.trail.lengthen.Given as goal

abbrev pub invariant-loop-pairs : goal.invariant-loop-pairs
invariant-loop-pairs l = record {
  kept : (k : ℕ) → pair_at l.pairs.items k ≡ pair_at l.initial.pairs.items k;
  size : length l.initial.pairs.items ≤ length l.pairs.items;
}

abbrev pub decreases-loop-pairs : goal.decreases-loop-pairs
decreases-loop-pairs l = l.n + 1 - length l.pairs.items
