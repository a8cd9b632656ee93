use Rattle.std.proofs.Common.{◌≡◌, ℕ, ◌<◌, ◌≤◌, None}
use Rattle.cdcl_trail.specs.Trail.{level_of}
use Rattle.cdcl_core.proofs.search.open_from.Given as goal

abbrev pub invariant-loop-atom : goal.invariant-loop-atom
invariant-loop-atom l = (k : ℕ) → l.from ≤ k → k < l.atom → level_of l.trail.trail.entries k ≡ None → ⊥
