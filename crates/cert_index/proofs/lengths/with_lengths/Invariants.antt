use Rattle.std.proofs.Common.{◌≡◌, ℕ, ◌<◌}
use Rattle.std.specs.Prelude.{All, Any}
use Rattle.cert_index.specs.declared.lengths.Ranked.{Ranked}
use Rattle.cert_index.specs.Lengths.{IsRankOf}
use Rattle.cert_index.proofs.lengths.with_lengths.Given as goal

abbrev pub invariant-loop-place : goal.invariant-loop-place
invariant-loop-place l = record {
  each : All (IsRankOf l.members) l.ranked.items;
  all : (k : ℕ) → k < l.place → Any (λ (r : Ranked). r.place ≡ k) l.ranked.items;
}
