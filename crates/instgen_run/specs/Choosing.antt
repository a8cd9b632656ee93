-- The choice of literals: which entries still have to choose.
use Rattle.std.specs.Prelude.{◌≡◌, ◌⊎◌, ℕ, suc, ◌<◌, ◌≤◌, ◌++◌, [], List, length, Bool, Some, All, Contains, slice_get}
use Rattle.inst_logic.specs.declared.signed.Signed.{Signed}
use Rattle.inst_logic.specs.Derivations.{at_number}
use Rattle.inst_logic.specs.Truth.{IsTrueLiteral}
use Rattle.prop_logic.specs.Valuation.{IsHeld}
use Rattle.instgen_select.specs.Choices.{IsTrueAt}
use Rattle.instgen_run.specs.Selections.{Placing, IsUser}

-- the place is that of a true literal, with this atom
abbrev pub IsChoice : List (Signed ℕ) → List Bool → ℕ → ℕ → Type 0
IsChoice clause bits place atom = (l : Signed ℕ) × (at_number clause place ≡ Some l) × IsTrueLiteral (IsHeld bits) l × (l.atom ≡ atom)

-- entry i, counted from 0, has a literal at its place
pub record IsNumberedPlace (literals : List (List (Signed ℕ))) (places : List ℕ) (i : ℕ) : Type 0 where
  pub clause : List (Signed ℕ)
  pub place : ℕ
  pub literal : Signed ℕ
  pub clause_at : slice_get literals i ≡ Some clause
  pub place_at : slice_get places i ≡ Some place
  pub literal_at : at_number clause place ≡ Some literal

-- entry i, counted from 0, is among the users of its atom, and its literal is true, or its atom is one of those left
pub record IsChosenBut (literals : List (List (Signed ℕ))) (bits : List Bool) (left : List ℕ) (s : Placing) (i : ℕ) : Type 0 where
  pub user : IsUser literals s i
  pub holds : IsTrueAt user.clause bits user.place ⊎ Contains left user.literal.atom

-- each entry with a place is so, or is one of those that are still to choose
abbrev pub IsUnderWay : List (List (Signed ℕ)) → List Bool → List ℕ → List ℕ → Placing → Type 0
IsUnderWay literals bits left rest s = (i : ℕ) → i < length s.places → IsChosenBut literals bits left s i ⊎ (IsNumberedPlace literals s.places i × Contains rest (suc i))

-- users are entries with a place
abbrev pub AreNumbersPlaced : Placing → Type 0
AreNumbersPlaced s = (a : ℕ) (us : List ℕ) → slice_get s.users a ≡ Some us → All (λ n. (0 < n) × (n ≤ length s.places)) us

-- lists without users are added
abbrev pub AreUsersKept : List (List ℕ) → List (List ℕ) → Type 0
AreUsersKept old new = (more : List (List ℕ)) × (new ≡ old ++ more) × All (λ us. us ≡ []) more
