-- The atoms of numbers.
use Rattle.std.specs.Prelude.{◌≡◌, ℕ, List, map, Some, slice_get}

-- each number names an item, and these are the items in order
abbrev pub AreAtomsAt : List ℕ → List ℕ → List ℕ → Type 0
AreAtomsAt ids numbers atoms = map Some atoms ≡ map (slice_get ids) numbers
