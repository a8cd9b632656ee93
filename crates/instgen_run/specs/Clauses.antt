-- The entries as pairs of a clause over the bank and its origin.
use Rattle.std.specs.Prelude.{◌≡◌, ◌⊎◌, ℕ, suc, ◌<◌, ◌≤◌, List, [], ◌∷◌, Bool, map, length, true, Some, All, Contains, slice_get}
use Rattle.inst_logic.specs.declared.signed.Signed.{Signed}
use Rattle.inst_logic.specs.WellFormed.{IsAtom}
use Rattle.inst_logic.specs.Substitution.{Matches}
use Rattle.inst_logic.specs.Clauses.{TreeClause, IsCanonical, Subsumes}
use Rattle.inst_logic.specs.Derivations.{at_number}
use Rattle.inst_calculus.specs.Entries as entries
use Rattle.term_bank.specs.Forest.{Forest, AreFormed, IsClauseOf, clause_at, is_ground, tree_at}
use Rattle.term_index.specs.Pairs.{Posting}
use Rattle.cert_values.specs.declared.member.Origin.{Origin}
use Rattle.cert_values.specs.Values.{origin_of}
use Rattle.instgen_run.specs.declared.entries.Entries.{Entries}
use Rattle.instgen_run.specs.declared.entries.Sought.{Sought}
use Rattle.instgen_run.specs.Tested.{IsTested}

abbrev pub Item : Type 0
Item = List (Signed ℕ) × Origin

abbrev pub entries_in : Forest → List Item → List entries.Entry
entries_in f es = map (λ (e : Item). record { clause = clause_at f e.0; origin = origin_of e.1 }) es

abbrev pub clauses_in : Forest → List Item → List TreeClause
clauses_in f es = map (λ (e : Item). clause_at f e.0) es

-- clauses in canonical form, of atoms of the bank
pub record AreEntries (f : Forest) (es : List Item) : Type 0 where
  pub formed : AreFormed f
  pub ids : All (λ (e : Item). IsClauseOf f e.0) es
  pub atoms : All (λ (e : Item). All (λ l. IsAtom (tree_at f l.atom)) e.0) es
  pub canonical : All (λ (e : Item). IsCanonical (clause_at f e.0)) es

-- the clause is the literal alone, which has no variables
abbrev pub IsUnit : Forest → List (Signed ℕ) → Signed ℕ → Type 0
IsUnit f c l = (c ≡ l ∷ []) × (is_ground (tree_at f l.atom) ≡ true)

-- the literal alone is an entry
abbrev pub IsEntry : List Item → Signed ℕ → Type 0
IsEntry es l = (e : Item) × Contains es e × (e.0 ≡ l ∷ [])

-- it has variables, or is no entry alone
abbrev pub IsNoUnit : Forest → List Item → Signed ℕ → Type 0
IsNoUnit f es l = is_ground (tree_at f l.atom) ≡ true → ¬ IsEntry es l

-- No entry has more literals than the longest. Each that has a literal and fewer is a unit, or the index has its first atom.
-- The flag tells whether there is an entry without literals.
pub record AreFirsts {I C : Type 0} (pairs : I → List Posting) (n : Entries I C) (es : List Item) : Type 0 where
  pub bounded : (i : ℕ) (e : Item) → slice_get es i ≡ Some e → length e.0 ≤ n.longest
  pub first : (i : ℕ) (e : Item) (l : Signed ℕ) → slice_get es i ≡ Some e → slice_get e.0 0 ≡ Some l → length e.0 < n.longest → IsUnit n.bank e.0 l ⊎ Contains (pairs n.first) (l.atom, suc i)
  pub flagged : (i : ℕ) (e : Item) → slice_get es i ≡ Some e → e.0 ≡ [] → n.has_empty ≡ true
  pub below : (p : Posting) → Contains (pairs n.first) p → p.1 ≤ length es
  pub empty : n.has_empty ≡ true → (i : ℕ) × (e : Item) × (slice_get es i ≡ Some e) × (e.0 ≡ [])

-- entry number k has fewer literals, and an instance within the clause
pub record IsShorterPart (f : Forest) (es : List Item) (d : List (Signed ℕ)) (len k : ℕ) : Type 0 where
  pub item : Item
  pub item_at : at_number es k ≡ Some item
  pub shorter : length item.0 < len
  pub within : Subsumes (clause_at f item.0) (clause_at f d)

abbrev pub HasShorterPart : Forest → List Item → List (Signed ℕ) → ℕ → Type 0
HasShorterPart f es d len = (k : ℕ) × IsShorterPart f es d len k

-- no stored pair that is more general than the literal is of a shorter part
abbrev pub IsPast : Forest → List Posting → List Item → List (Signed ℕ) → ℕ → Signed ℕ → Type 0
IsPast f pairs es d len l = (p : Posting) → Contains pairs p → Matches (tree_at f p.0) (tree_at f l.atom) → ¬ IsShorterPart f es d len p.1

-- none of these numbers is of a shorter part
abbrev pub AreNoParts : Forest → List Item → List (Signed ℕ) → ℕ → List Bool → Type 0
AreNoParts f es d len tested = (k : ℕ) → IsTested tested k → ¬ IsShorterPart f es d len k

-- of what is sought among the entries

abbrev pub IsSought : {I C : Type 0} → Entries I C → Sought → ℕ → Type 0
IsSought n s k = IsShorterPart n.bank n.clauses.entries s.clause.now s.len k

abbrev pub HasSought : {I C : Type 0} → Entries I C → Sought → Type 0
HasSought n s = HasShorterPart n.bank n.clauses.entries s.clause.now s.len

abbrev pub IsPastSought : {I C : Type 0} → (I → List Posting) → Entries I C → Sought → Signed ℕ → Type 0
IsPastSought pairs n s l = IsPast n.bank (pairs n.first) n.clauses.entries s.clause.now s.len l

abbrev pub AreUnsought : {I C : Type 0} → Entries I C → Sought → List Bool → Type 0
AreUnsought n s tested = AreNoParts n.bank n.clauses.entries s.clause.now s.len tested
