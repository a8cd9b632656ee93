-- Buckets: what has one head and one fingerprint has one number.
use Rattle.std.specs.Prelude.{◌≡◌, ℕ, ◌<◌, List, length, false, slice_index_or}
use Rattle.cert_index.specs.declared.buckets.Bucket.{Bucket}
use Rattle.cert_index.specs.declared.buckets.Buckets.{Buckets}
use Rattle.cert_index.specs.declared.fingerprint.Fingerprint.{Fingerprint}
use Rattle.cert_index.specs.Fingerprints.{fingerprint_at, no_marks}
use Rattle.cert_index.specs.Partners.{Head, head_at}

abbrev pub no_bucket : Bucket
no_bucket = record { head = record { positive = false; atom = 0 }; fingerprint = record { own = no_marks; first = no_marks; second = no_marks } }

abbrev pub number_at : List ℕ → ℕ → ℕ
number_at ns i = slice_index_or ns i 0

-- the bucket's place among the known ones
pub record IsNumbered (known : List Bucket) (b : Bucket) (n : ℕ) : Type 0 where
  pub within : n < length known
  pub is : slice_index_or known n no_bucket ≡ b

-- the first n items have numbers, which are those of their buckets
pub record AreNumbered (known : List Bucket) (hs : List Head) (ps : List Fingerprint) (ns : List ℕ) (n : ℕ) : Type 0 where
  pub count : length ns ≡ n
  pub each : (i : ℕ) → i < n → IsNumbered known (record { head = head_at hs i; fingerprint = fingerprint_at ps i }) (number_at ns i)

-- what has the head and the fingerprint is in bucket n, counted from 0
pub record IsInBucket (hs : List Head) (ps : List Fingerprint) (h : Head) (p : Fingerprint) (n : ℕ) : Type 0 where
  pub within : n < length hs
  pub head : head_at hs n ≡ h
  pub fingerprint : fingerprint_at ps n ≡ p

-- items with these heads and fingerprints are in the buckets of their numbers
pub record AreInBuckets (hs : List Head) (ps : List Fingerprint) (b : Buckets) : Type 0 where
  pub count : length b.numbers.items ≡ length hs
  pub marked : length b.fingerprints.items ≡ length b.heads.items
  pub each : (i : ℕ) → i < length hs → IsInBucket b.heads.items b.fingerprints.items (head_at hs i) (fingerprint_at ps i) (number_at b.numbers.items i)

-- the items' numbers are those of buckets
pub record AreKnown (b : Buckets) : Type 0 where
  pub known : (i : ℕ) → i < length b.numbers.items → number_at b.numbers.items i < length b.heads.items
