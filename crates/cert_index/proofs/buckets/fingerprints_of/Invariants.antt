use Rattle.std.proofs.Common.{◌≡◌, map, take}
use Rattle.cert_index.specs.declared.buckets.Bucket.{Bucket}
use Rattle.cert_index.proofs.buckets.fingerprints_of.Given as goal

abbrev pub invariant-loop-bucket : goal.invariant-loop-bucket
invariant-loop-bucket l = l.fingerprints.items ≡ map (λ (b : Bucket). b.fingerprint) (take l.bucket-index l.buckets)
