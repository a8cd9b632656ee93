use Rattle.std.proofs.Common.{◌≢◌, ◌-◌, ◌≤◌, ℕ, length, take}
use Rattle.std.specs.Prelude.{Contains}
use Rattle.cdcl_trail.proofs.detach.forget_loose.Given as goal

abbrev pub invariant-loop-place : goal.invariant-loop-place
invariant-loop-place l = record {
  gone : Contains (take l.place l.loose.items) l.n → ⊥;
  kept : (m : ℕ) → m ≢ l.n → Contains l.initial.loose.items m → Contains l.loose.items m;
  short : length l.loose.items ≤ length l.initial.loose.items;
  old : (m : ℕ) → Contains l.loose.items m → Contains l.initial.loose.items m;
}

abbrev pub decreases-loop-place : goal.decreases-loop-place
decreases-loop-place l = length l.loose.items - l.place
