-- A set of literals, as a list of tests for each sign.
use Rattle.std.specs.Prelude.{◌≡◌, ℕ, ◌≤◌, ◌<◌, Bool, true, false, List, length, All, Contains, IsTrue, ◌↔◌, slice_set, if◌then◌else◌}
use Rattle.std.specs.List.{slice_index_or}
use Rattle.inst_logic.specs.declared.signed.Signed.{Signed}

-- which atoms are marked, for each sign
pub record Marked : Type 0 where
  pub positive : List Bool
  pub negative : List Bool

-- the number of atoms
abbrev pub room : Marked → ℕ
room m = length m.positive

abbrev pub is_marked : Marked → Signed ℕ → Bool
is_marked m l = if l.positive then slice_index_or m.positive l.atom false else slice_index_or m.negative l.atom false

-- the set with the literal
abbrev pub with_mark : Marked → Signed ℕ → Marked
with_mark m l = record {
  positive = if l.positive then slice_set m.positive l.atom true else m.positive;
  negative = if l.positive then m.negative else slice_set m.negative l.atom true;
}

-- no stamp is above the present one
pub record IsStamped (positive negative : List ℕ) (present : ℕ) : Type 0 where
  pub same_room : length positive ≡ length negative
  pub positive_below : All (λ s. s ≤ present) positive
  pub negative_below : All (λ s. s ≤ present) negative
  pub begun : 0 < present

-- exactly the literals of the list are marked, among those of the set's atoms
abbrev pub Holds : Marked → List (Signed ℕ) → Type 0
Holds m F = (length m.negative ≡ length m.positive) × ((l : Signed ℕ) → l.atom < room m → IsTrue (is_marked m l) ↔ Contains F l)
