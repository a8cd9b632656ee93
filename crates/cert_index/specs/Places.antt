-- Places of members, counted from 0.
use Rattle.std.specs.Prelude.{ℕ, ◌<◌, List, length, slice_index_or}
use Rattle.cert_values.specs.declared.member.Member.{Member}

-- there is a member at the place, and it has the fact
pub record IsPlaceOf (P : Member → Type 0) (ms : List Member) (k : ℕ) : Type 0 where
  pub within : k < length ms
  pub holds : (m : Member) → P (slice_index_or ms k m)
