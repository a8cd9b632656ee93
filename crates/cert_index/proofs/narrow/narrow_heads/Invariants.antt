use Rattle.std.proofs.Common.{◌≡◌, ℕ, ◌<◌, length}
use Rattle.cert_index.specs.Fingerprints.{fingerprint_at}
use Rattle.cert_index.specs.Narrow.{IsNarrow}
use Rattle.cert_index.specs.Partners.{head_at}
use Rattle.cert_index.proofs.narrow.narrow_heads.Given as goal

abbrev pub invariant-loop-i : goal.invariant-loop-i
invariant-loop-i l = record {
  count : length l.narrow.items ≡ l.i;
  each : (k : ℕ) → k < l.i → IsNarrow l.classes.keys l.unmarked.keys (head_at l.heads k) (fingerprint_at l.fingerprints k) (head_at l.narrow.items k);
}
