-- What the analysis of a conflict knows at each place of the trail, and what it leaves.
use Rattle.std.specs.Prelude.{◌≡◌, ◌≢◌, ℕ, ◌+◌, ◌-◌, ◌^◌, ◌<◌, ◌≤◌, ◌==◌, ◌&&◌, Bool, true, false, List, [], ◌∷◌, ◌++◌, length, map, take, reverse, Some, All, Contains, slice_get, if◌then◌else◌}
use Rattle.std.specs.List.{slice_index_or}
use Rattle.inst_logic.specs.declared.signed.Signed.{Signed}
use Rattle.inst_logic.specs.Signed.{complement}
use Rattle.prop_logic.specs.declared.literal.Hint.{Hint}
use Rattle.prop_logic.specs.Literal.{cited, AllAtomsBelow, StepsBelow}
use Rattle.prop_logic.specs.Analysis.{ClosesAll}
use Rattle.cdcl_trail.specs.declared.entry.Entry.{Entry}
use Rattle.cdcl_trail.specs.Trail.{Trail, IsTrail, IsDecision}
use Rattle.cdcl_trail.specs.Propagation.{IsFalseIn, GivesUnit}
use Rattle.cdcl_core.specs.declared.log.Log.{Log}
use Rattle.cdcl_core.specs.declared.analysis.Waiting.{Waiting}
use Rattle.cdcl_core.specs.declared.analysis.Analysis.{Analysis}
use Rattle.cdcl_core.specs.Log.{IsNamed}

abbrev pub IsMarked : List Bool → ℕ → Type 0
IsMarked marks atom = slice_index_or marks atom false ≡ true

abbrev pub KeepsMarks : List Bool → List Bool → Type 0
KeepsMarks old new = (a : ℕ) → IsMarked old a → IsMarked new a

-- how many of the entries of this level have marked atoms
abbrev pub marked_count : ℕ → List Bool → List Entry → ℕ
marked_count level marks [] = 0
marked_count level marks (e ∷ es) = (if e.level == level && slice_index_or marks e.lit.atom false then 1 else 0) + marked_count level marks es

-- no more of the first i entries are marked at the present level than are counted
abbrev pub AreCounted : Trail → ℕ → List Bool → ℕ → Type 0
AreCounted t i marks present = marked_count t.level marks (take i t.entries) ≤ present

-- those of the first i entries that are marked wait, and no entry waits that is not marked
pub record AreWaiting (t : Trail) (i : ℕ) (marks : List Bool) (places : List ℕ) : Type 0 where
  pub all : (k : ℕ) (e : Entry) → k < i → slice_get t.entries k ≡ Some e → IsMarked marks e.lit.atom → Contains places k
  pub marked : (k : ℕ) (e : Entry) → Contains places k → slice_get t.entries k ≡ Some e → IsMarked marks e.lit.atom

-- the marks of the clause are added
pub record MarksToo (t : Trail) (clause : List (Signed ℕ)) (old new : List Bool) (was is : Waiting) : Type 0 where
  pub marked : All (λ l. IsMarked new l.atom) clause
  pub kept : KeepsMarks old new
  pub counted : (i : ℕ) → AreCounted t i old was.present → AreCounted t i new is.present
  pub waiting : (i : ℕ) → AreWaiting t i old was.places → AreWaiting t i new is.places

-- the reason of an entry is named, and made its literal true
abbrev pub AreImplied : Log → List Entry → Type 0
AreImplied log entries = (k n : ℕ) (e : Entry) → slice_get entries k ≡ Some e → e.reason ≡ Some n → (c : List (Signed ℕ)) × IsNamed log n c × GivesUnit (take k entries) c e.lit

-- the trail is right, and so are the log's clauses that gave its values
pub record IsReady (log : Log) (t : Trail) : Type 0 where
  pub trail : IsTrail t
  pub room : length t.entries ≤ 2 ^ 64 - 1
  pub below : AllAtomsBelow t.atoms log.added
  pub steps_below : StepsBelow t.atoms log.steps
  pub implied : AreImplied log t.entries

-- the clause of this number is named, and all its literals are false
abbrev pub NamesFalse : Log → List Entry → ℕ → Type 0
NamesFalse log entries n = (c : List (Signed ℕ)) × IsNamed log n c × All (IsFalseIn entries) c

-- no literal of the entries is in F
abbrev pub IsFree : List Entry → List (Signed ℕ) → Type 0
IsFree entries F = (e : Entry) → Contains entries e → ¬ Contains F e.lit

-- F has the complements of the marked ones of the entries
abbrev pub Covers : List Entry → List Bool → List (Signed ℕ) → Type 0
Covers entries marks F = (e : Entry) → Contains entries e → IsMarked marks e.lit.atom → Contains F (complement e.lit)

-- from each F that meets `stay` and has none of the literals of `whole` the hints close, if it has what is still marked
abbrev pub ClosesFrom : Log → List Entry → List Entry → List Bool → (List (Signed ℕ) → Type 0) → List Hint → Type 0
ClosesFrom log whole before marks stay hints = (F : List (Signed ℕ)) → IsFree whole F → Covers before marks F → stay F → ClosesAll F (map (cited log.added log.steps) hints)

-- a false literal whose atom has its value at a level below this one
abbrev pub IsFalseBelow : List Entry → ℕ → Signed ℕ → Type 0
IsFalseBelow entries top l = (e : Entry) × Contains entries e × (l ≡ complement e.lit) × (e.level < top)

-- the first literal is above the others and above level 0
abbrev pub IsLearned : List Entry → List (Signed ℕ) → Type 0
IsLearned entries [] = Unit {0}
IsLearned entries (l ∷ ls) = (e : Entry) × Contains entries e × (l ≡ complement e.lit) × (0 < e.level) × All (IsFalseBelow entries e.level) ls

-- the marked ones of the entries are below the first literal
abbrev pub AreBelowFirst : List Entry → List Entry → List Bool → List (Signed ℕ) → Type 0
AreBelowFirst entries before marks [] = Unit {0}
AreBelowFirst entries before marks (l ∷ ls) = (e d : Entry) → Contains entries e → l ≡ complement e.lit → Contains before d → IsMarked marks d.lit.atom → d.level < e.level

abbrev pub HasAll : List (Signed ℕ) → List (Signed ℕ) → Type 0
HasAll clause F = All (Contains F) clause

-- the analysis when it has met the entries from i on
pub record IsMet (log : Log) (t : Trail) (i : ℕ) (marks : List Bool) (a : Analysis) : Type 0 where
  pub closes : ClosesFrom log t.entries (take i t.entries) marks (HasAll a.clause.items) (reverse a.hints.items)
  pub counted : AreCounted t i marks a.waiting.present
  pub learned : IsLearned t.entries a.clause.items
  pub first : AreBelowFirst t.entries (take i t.entries) marks a.clause.items

-- the clause of the number is marked, and nothing else
pub record IsBegun (log : Log) (t : Trail) (n : ℕ) (c : List (Signed ℕ)) (marks : List Bool) (a : Analysis) : Type 0 where
  pub clause : a.clause.items ≡ []
  pub hints : (h : Hint) → slice_get log.names n ≡ Some h → a.hints.items ≡ h ∷ []
  pub marked : All (λ l. IsMarked marks l.atom) c
  pub counted : (i : ℕ) → AreCounted t i marks a.waiting.present
  pub waiting : (i : ℕ) → AreWaiting t i marks a.waiting.places

-- what gave the literal at the place is in its stead
pub record Resolves (log : Log) (t : Trail) (i : ℕ) (l : Signed ℕ) (old new : List Bool) (a b : Analysis) : Type 0 where
  pub hint : Hint
  pub clause : List (Signed ℕ)
  pub named : cited log.added log.steps hint ≡ Some clause
  pub unit : GivesUnit (take i t.entries) clause l
  pub same : b.clause.items ≡ a.clause.items
  pub hints : b.hints.items ≡ a.hints.items ++ hint ∷ []
  pub marked : MarksToo t clause old new a.waiting b.waiting

-- what is left when it has met all
pub record IsAnalysis (log : Log) (entries : List Entry) (a : Analysis) : Type 0 where
  pub closes : ClosesAll a.clause.items (map (cited log.added log.steps) a.hints.items)
  pub learned : IsLearned entries a.clause.items

-- F has the complements of the marked decisions
abbrev pub HasDecisions : List Entry → List Bool → List (Signed ℕ) → Type 0
HasDecisions entries marks F = (e : Entry) → Contains entries e → IsDecision e → IsMarked marks e.lit.atom → Contains F (complement e.lit)

abbrev pub HasDecisionsAnd : Signed ℕ → List Entry → List Bool → List (Signed ℕ) → Type 0
HasDecisionsAnd l entries marks F = Contains F l × HasDecisions entries marks F

-- the analysis when exactly the decisions stay, and it has met the entries from i on, from the place of the entry of l back
abbrev pub IsMetDecided : Log → Trail → ℕ → ℕ → Signed ℕ → List Bool → Analysis → Type 0
IsMetDecided log t start i l marks a = ClosesFrom log (take start t.entries) (take i t.entries) marks (HasDecisionsAnd l (take start t.entries) marks) (reverse a.hints.items)

-- from the literal and the complements of the marked decisions the hints close
abbrev pub ShowsGiven : Log → List Entry → Signed ℕ → List Bool → List Hint → Type 0
ShowsGiven log entries l marks hints =
    (F : List (Signed ℕ)) → ((e : Entry) → Contains entries e → e.lit ≢ l → ¬ Contains F e.lit) → HasDecisionsAnd l entries marks F → ClosesAll F (map (cited log.added log.steps) hints)
