use Rattle.std.proofs.Common.{◌≡◌, ℕ, ◌<◌, length}
use Rattle.cert_index.specs.Fingerprints.{IsFingerprintOf, fingerprint_at}
use Rattle.cert_index.proofs.fingerprint.find_fingerprints.Given as goal

abbrev pub invariant-loop-i : goal.invariant-loop-i
invariant-loop-i l = record {
  count : length l.fingerprints.items ≡ l.i;
  each : (k : ℕ) → k < l.i → IsFingerprintOf l.cert k (fingerprint_at l.fingerprints.items k);
}
