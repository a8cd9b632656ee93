use Rattle.std.proofs.Common.{ℕ, ◌<◌, ◌≤◌, take}
use Rattle.std.specs.Prelude.{All, unwrap_or}
use Rattle.cdcl_trail.specs.Trail.{level_of}
use Rattle.cdcl_core.proofs.search.highest_level.Given as goal

abbrev pub invariant-loop-i : goal.invariant-loop-i
invariant-loop-i l = record {
  reached : All (λ x. unwrap_or (level_of l.trail.trail.entries x.atom) 0 ≤ l.highest) (take l.i l.literals);
  least : (top : ℕ) → 0 < top → All (λ x. unwrap_or (level_of l.trail.trail.entries x.atom) 0 < top) (take l.i l.literals) → l.highest < top;
}
