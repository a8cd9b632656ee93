-- The places of entries, and for each numbered atom the entries that may have it selected.
use Rattle.std.specs.Prelude.{◌≡◌, ℕ, suc, ◌<◌, ◌≤◌, List, length, Some, All, Contains, slice_get}
use Rattle.inst_logic.specs.declared.signed.Signed.{Signed}
use Rattle.inst_logic.specs.Derivations.{at_number}

pub record Placing : Type 0 where
  pub places : List ℕ
  pub users : List (List ℕ)

-- entry i, counted from 0, has a literal at its place, and is among the users of its atom
pub record IsUser (literals : List (List (Signed ℕ))) (s : Placing) (i : ℕ) : Type 0 where
  pub clause : List (Signed ℕ)
  pub place : ℕ
  pub literal : Signed ℕ
  pub users : List ℕ
  pub clause_at : slice_get literals i ≡ Some clause
  pub place_at : slice_get s.places i ≡ Some place
  pub literal_at : at_number clause place ≡ Some literal
  pub users_at : slice_get s.users literal.atom ≡ Some users
  pub among : Contains users (suc i)

-- each entry with a place is so, and users are entries with a place
pub record AreUsers (literals : List (List (Signed ℕ))) (s : Placing) : Type 0 where
  pub users : (i : ℕ) → i < length s.places → IsUser literals s i
  pub numbers : (a : ℕ) (us : List ℕ) → slice_get s.users a ≡ Some us → All (λ n. (0 < n) × (n ≤ length s.places)) us
