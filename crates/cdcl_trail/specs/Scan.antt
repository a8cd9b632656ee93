-- What a scan of a clause says.
use Rattle.std.specs.Prelude.{◌≡◌, ◌≢◌, ℕ, ◌⊎◌, List, Option, Some, Contains, slice_get}
use Rattle.inst_logic.specs.declared.signed.Signed.{Signed}
use Rattle.cdcl_trail.specs.declared.entry.Entry.{Entry}
use Rattle.cdcl_trail.specs.Clauses.{clause_number}
use Rattle.cdcl_trail.specs.Propagation.{IsFalseIn}
use Rattle.cdcl_trail.specs.Trail.{IsUnset, literals_of}

-- at this place of the clause is a literal that is not false, and not this one
abbrev pub IsOpenAt : List Entry → List (Signed ℕ) → Signed ℕ → ℕ → Type 0
IsOpenAt entries clause other place = (l : Signed ℕ) × (slice_get clause place ≡ Some l) × (l ≢ other) × (¬ IsFalseIn entries l)

-- a literal of the clause is true
abbrev pub HasTrue : List Entry → List (Signed ℕ) → Type 0
HasTrue entries clause = (l : Signed ℕ) × Contains clause l × Contains (literals_of entries) l

-- two literals of the clause have no value
abbrev pub HasTwoUnset : List Entry → List (Signed ℕ) → Type 0
HasTwoUnset entries clause = (l m : Signed ℕ) × Contains clause l × Contains clause m × (l ≢ m) × IsUnset entries l.atom × IsUnset entries m.atom

-- no literal of the clause follows
abbrev pub HasRest : List Entry → List (Signed ℕ) → Type 0
HasRest entries clause = HasTrue entries clause ⊎ HasTwoUnset entries clause

-- the clause of this number, where there is one, has a true literal or two without values
abbrev pub RestsAt : List (Option (List (Signed ℕ))) → List Entry → ℕ → Type 0
RestsAt clauses entries n = (c : List (Signed ℕ)) → clause_number clauses n ≡ Some c → HasRest entries c
