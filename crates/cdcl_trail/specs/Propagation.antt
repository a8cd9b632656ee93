-- Unit propagation: what it may add, and when it is at its end.
use Rattle.std.specs.Prelude.{◌≡◌, ◌≤◌, ◌⊎◌, ℕ, List, length, take, Option, Some, All, Contains, slice_get}
use Rattle.inst_logic.specs.declared.signed.Signed.{Signed}
use Rattle.inst_logic.specs.Signed.{complement}
use Rattle.cdcl_trail.specs.declared.entry.Entry.{Entry}
use Rattle.cdcl_trail.specs.Clauses.{clause_number}
use Rattle.cdcl_trail.specs.Trail.{Trail, IsUnset, literals_of}

-- the literal's complement is true
abbrev pub IsFalseIn : List Entry → Signed ℕ → Type 0
IsFalseIn entries l = Contains (literals_of entries) (complement l)

-- the clause has the literal, and all its other literals are false
pub record GivesUnit (entries : List Entry) (clause : List (Signed ℕ)) (l : Signed ℕ) : Type 0 where
  pub here : Contains clause l
  pub others : All (λ m. IsFalseIn entries m ⊎ (m ≡ l)) clause

-- the reason of the entry is a clause that was unit
abbrev pub IsGiven : List (Option (List (Signed ℕ))) → List Entry → Entry → Type 0
IsGiven clauses before e = (n : ℕ) × (c : List (Signed ℕ)) × (e.reason ≡ Some n) × (clause_number clauses n ≡ Some c) × GivesUnit before c e.lit

-- Only entries that clauses gave were added, behind the earlier ones and at the present level.
pub record Propagates (clauses : List (Option (List (Signed ℕ)))) (old new : Trail) : Type 0 where
  pub atoms : new.atoms ≡ old.atoms
  pub level : new.level ≡ old.level
  pub kept : take (length old.entries) new.entries ≡ old.entries
  pub at_level : (k : ℕ) (e : Entry) → length old.entries ≤ k → slice_get new.entries k ≡ Some e → e.level ≡ old.level
  pub given : (k : ℕ) (e : Entry) → length old.entries ≤ k → slice_get new.entries k ≡ Some e → IsGiven clauses (take k new.entries) e

-- every literal of clause n is false
abbrev pub IsConflict : List (Option (List (Signed ℕ))) → List Entry → ℕ → Type 0
IsConflict clauses entries n = (c : List (Signed ℕ)) × (clause_number clauses n ≡ Some c) × All (IsFalseIn entries) c

-- No clause is false, and none without a true literal has exactly one literal without a value.
pub record IsStable (clauses : List (Option (List (Signed ℕ)))) (entries : List Entry) : Type 0 where
  pub no_conflict : (n : ℕ) → ¬ IsConflict clauses entries n
  pub no_unit : (n : ℕ) (c : List (Signed ℕ)) (l : Signed ℕ) → clause_number clauses n ≡ Some c → IsUnset entries l.atom → ¬ GivesUnit entries c l
