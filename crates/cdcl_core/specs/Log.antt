-- The log of a solver, and what the numbers of the trail's clauses cite of it.
use Rattle.std.specs.Prelude.{◌≡◌, ℕ, List, Option, Some, All, slice_get}
use Rattle.inst_logic.specs.declared.signed.Signed.{Signed}
use Rattle.prop_logic.specs.declared.literal.Hint.{Hint}
use Rattle.prop_logic.specs.declared.literal.Hint.TheVariants.{Added}
use Rattle.prop_logic.specs.Literal.{cited, AllAtomsBelow}
use Rattle.prop_logic.specs.Search.{AreGood}
use Rattle.cdcl_trail.specs.Clauses.{clause_number}
use Rattle.cdcl_core.specs.declared.log.Log.{Log}

-- the number has the name, and the others keep theirs
pub record PutsName (old new : List Hint) (n : ℕ) (h : Hint) : Type 0 where
  pub here : slice_get new n ≡ Some h
  pub others : (k : ℕ) (g : Hint) → ¬ (k ≡ n) → slice_get old k ≡ Some g → slice_get new k ≡ Some g

-- the clause is what the number's name cites
abbrev pub IsNamed : Log → ℕ → List (Signed ℕ) → Type 0
IsNamed log n c = (h : Hint) × (slice_get log.names n ≡ Some h) × (cited log.added log.steps h ≡ Some c)

-- the clause is one of the trail's, with the name of an added one
abbrev pub IsFound : List (Option (List (Signed ℕ))) → List Hint → List (Signed ℕ) → Type 0
IsFound clauses names c = (n : ℕ) × (i : ℕ) × (clause_number clauses n ≡ Some c) × (slice_get names n ≡ Some (Added i))

-- each clause of the trail has a name, each added clause is one of the trail's, and the steps are right
pub record IsLog (atoms : ℕ) (clauses : List (Option (List (Signed ℕ)))) (log : Log) : Type 0 where
  pub named : (n : ℕ) (c : List (Signed ℕ)) → clause_number clauses n ≡ Some c → IsNamed log n c
  pub held : All (IsFound clauses log.names) log.added
  pub below : AllAtomsBelow atoms log.added
  pub good : AreGood log.added atoms log.steps
