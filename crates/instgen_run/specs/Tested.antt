-- Sets of entries as stamps.
use Rattle.std.specs.Prelude.{◌≡◌, ℕ, ◌≤◌, ◌<◌, List, Bool, true, Some, All, slice_get}

-- no stamp is above the present one
pub record AreStamps (stamps : List ℕ) (present : ℕ) : Type 0 where
  pub below : All (λ s. s ≤ present) stamps
  pub begun : 0 < present

-- the number is in the set
abbrev pub IsTested : List Bool → ℕ → Type 0
IsTested tested k = slice_get tested k ≡ Some true
