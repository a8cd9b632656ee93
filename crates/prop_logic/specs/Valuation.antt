-- The values of numbered atoms.
use Rattle.std.specs.Prelude.{◌≡◌, ◌≢◌, ◌<◌, ◌↔◌, ℕ, List, Bool, true, false, Some, Contains, slice_get}
use Rattle.std.specs.List.{slice_index_or}

-- the atom is held true: one past the end is not
abbrev pub IsHeld : List Bool → ℕ → Type 0
IsHeld valuation atom = slice_get valuation atom ≡ Some true

-- the value of the atom, false past the end
abbrev pub value_at : List Bool → ℕ → Bool
value_at valuation atom = slice_index_or valuation atom false

-- these are exactly the atoms below n at which the valuations differ
abbrev pub AreChangesBelow : ℕ → List Bool → List Bool → List ℕ → Type 0
AreChangesBelow n old new atoms = (k : ℕ) → Contains atoms k ↔ ((k < n) × (value_at old k ≢ value_at new k))

-- these are exactly the atoms at which the valuations differ
abbrev pub AreChanges : List Bool → List Bool → List ℕ → Type 0
AreChanges old new atoms = (k : ℕ) → Contains atoms k ↔ (value_at old k ≢ value_at new k)
