-- Clauses with values of their atoms that make them true: each clause is noted at a literal of it that is true.
use Rattle.std.specs.Prelude.{◌≡◌, ◌⊎◌, ℕ, ◌+◌, ◌≤◌, ◌<◌, List, Bool, not, Some, All, Contains, length, map, slice_get}
use Rattle.inst_logic.specs.declared.signed.Signed.{Signed}
use Rattle.inst_logic.specs.Signed.{complement}
use Rattle.prop_logic.specs.Solving.{MakesTrue}
use Rattle.prop_logic.specs.Literal.{AllAtomsBelow}
use Rattle.prop_logic.specs.Valuation.{value_at}
use Rattle.compact_lists.specs.Codes.{code_of}
use Rattle.global_subs.specs.declared.witnesses.Witnesses.{Witnesses}
use Rattle.global_subs.specs.Notes.{IsNotedAt, numbers_at}

-- the literal is true by the values
abbrev pub IsTrueIn : List Bool → Signed ℕ → Type 0
IsTrueIn values l = value_at values l.atom ≡ l.positive

-- some literal of the clause is true by the values
abbrev pub HasTrue : List Bool → List (Signed ℕ) → Type 0
HasTrue values clause = (l : Signed ℕ) × Contains clause l × IsTrueIn values l

-- the clause is noted at a literal of it that is true
pub record IsWitnessed (lists : List (List ℕ)) (values : List Bool) (clause : List (Signed ℕ)) (k : ℕ) : Type 0 where
  pub literal : Signed ℕ
  pub here : Contains clause literal
  pub holds : IsTrueIn values literal
  pub noted : IsNotedAt lists literal k

-- each clause that is not loose is noted at a true literal of it
abbrev pub AreWitnessed : List (List (Signed ℕ)) → List (List ℕ) → List Bool → List ℕ → Type 0
AreWitnessed clauses lists values loose = (k : ℕ) (clause : List (Signed ℕ)) → slice_get clauses k ≡ Some clause → Contains loose k ⊎ IsWitnessed lists values clause k

-- the clause of this number, if there is one, is loose or noted at a true literal of it
abbrev pub IsPlaced : List (List (Signed ℕ)) → List (List ℕ) → List Bool → List ℕ → ℕ → Type 0
IsPlaced clauses lists values loose k = (clause : List (Signed ℕ)) → slice_get clauses k ≡ Some clause → Contains loose k ⊎ IsWitnessed lists values clause k

-- the clause of this number, if there is one, is noted at a true literal of it
abbrev pub IsWitnessedAt : List (List (Signed ℕ)) → List (List ℕ) → List Bool → ℕ → Type 0
IsWitnessedAt clauses lists values k = (clause : List (Signed ℕ)) → slice_get clauses k ≡ Some clause → IsWitnessed lists values clause k

pub record AreKept (clauses : List (List (Signed ℕ))) (lists : List (List ℕ)) (values : List Bool) (loose : List ℕ) : Type 0 where
  pub below : AllAtomsBelow (length values) clauses
  pub room : length values + length values ≤ length lists
  pub each : AreWitnessed clauses lists values loose

abbrev pub AreKeptBy : List (List (Signed ℕ)) → Witnesses → Type 0
AreKeptBy clauses w = AreKept clauses w.notes w.values w.loose.items

-- what contracts see: the clauses, and how many atoms have values
pub record Keeping : Type 0 where
  pub clauses : List (List (Signed ℕ))
  pub atoms : ℕ

-- the clause of this number, if there is one, has a true literal
abbrev pub AreTrueAt : List (List (Signed ℕ)) → List Bool → ℕ → Type 0
AreTrueAt clauses values k = (clause : List (Signed ℕ)) → slice_get clauses k ≡ Some clause → HasTrue values clause

-- the clause of this number, if there is one and it has a true literal, is noted at one
abbrev pub IsMoved : List (List (Signed ℕ)) → List (List ℕ) → List Bool → ℕ → Type 0
IsMoved clauses lists values k = (clause : List (Signed ℕ)) → slice_get clauses k ≡ Some clause → HasTrue values clause → IsWitnessed lists values clause k

-- what was noted at the literals of these atoms which are false is noted at a true literal, if it has one
abbrev pub AreMoved : List (List (Signed ℕ)) → List (List ℕ) → List (List ℕ) → List Bool → List ℕ → Type 0
AreMoved clauses old new values atoms = (l : Signed ℕ) → Contains atoms l.atom → value_at values l.atom ≡ not l.positive → (k : ℕ) → IsNotedAt old l k → IsMoved clauses new values k

-- there are lists for each literal of the clauses
abbrev pub HaveRoom : List (List (Signed ℕ)) → ℕ → Type 0
HaveRoom clauses n = All (λ c. All (λ l. code_of l < n) c) clauses

-- what is noted at literals that are false is the same
abbrev pub KeepsFalse : List Bool → List (List ℕ) → List (List ℕ) → Type 0
KeepsFalse values old new = (l : Signed ℕ) → value_at values l.atom ≡ not l.positive → numbers_at new l ≡ numbers_at old l

-- some valuation makes the clauses true and the literals false
abbrev pub CanBeFalse : List (List (Signed ℕ)) → List (Signed ℕ) → Type 0
CanBeFalse clauses literals = (v : List Bool) × MakesTrue v clauses (map complement literals)
