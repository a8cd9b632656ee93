-- Sets of names, and names that are outside of a set.
use Rattle.std.specs.Prelude.{◌≡◌, ℕ, List, [], ◌∷◌, Option, Some, None, map, ⊤, if◌then◌else◌}
use Rattle.std.specs.List.{list_any}
use Rattle.std.specs.Str.{bytes_eq}
use Rattle.tptp_load.specs.Includes.{Stated, first_missing}
use Rattle.tptp_load.specs.declared.error.LoadError.{LoadError}
use Rattle.tptp_load.specs.declared.error.LoadError.TheVariants.{Text, Absent, NotSelected, IncludeDepth, TooLong, ReadFault, Memory}

-- the names of the one are those of the other
abbrev pub HasSame : List (List ℕ) → List (List ℕ) → Type 0
HasSame keys names = (n : List ℕ) → list_any (bytes_eq n) keys ≡ list_any (bytes_eq n) names

abbrev pub names_of : List Stated → List (List ℕ)
names_of stated = map (λ s. s.name) stated

-- the first of the names that is not among the keys
abbrev pub first_outside : List (List ℕ) → List (List ℕ) → Option (List ℕ)
first_outside keys [] = None
first_outside keys (n ∷ ns) = if list_any (bytes_eq n) keys then first_outside keys ns else Some n

-- the error tells the first of the names that some list lacks
abbrev pub Tells : Option (List ℕ) → List ℕ → LoadError → Type 0
Tells missing file (Text f fault) = ⊥
Tells missing file (Absent wanted) = ⊥
Tells missing file (NotSelected f wanted) = (f ≡ file) × (missing ≡ Some wanted)
Tells missing file (IncludeDepth f) = ⊥
Tells missing file TooLong = ⊥
Tells missing file ReadFault = ⊥
Tells missing file Memory = ⊤

abbrev pub IsOutside : List (List ℕ) → List ℕ → List (List ℕ) → LoadError → Type 0
IsOutside keys file names e = Tells (first_outside keys names) file e

abbrev pub IsUnselected : List Stated → List ℕ → List (List ℕ) → LoadError → Type 0
IsUnselected stated file names e = Tells (first_missing stated names) file e
