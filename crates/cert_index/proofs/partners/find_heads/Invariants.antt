use Rattle.std.proofs.Common.{◌≡◌, ℕ, ◌<◌, length}
use Rattle.cert_index.specs.Partners.{IsHeadOf, head_at}
use Rattle.cert_index.proofs.partners.find_heads.Given as goal

abbrev pub invariant-loop-i : goal.invariant-loop-i
invariant-loop-i l = record {
  count : length l.heads.items ≡ l.i;
  each : (k : ℕ) → k < l.i → IsHeadOf l.cert k (head_at l.heads.items k);
}
