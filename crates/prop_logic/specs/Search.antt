-- The search of the plain solver: the first atoms have values, and the last choice that a conflict depends on is turned.
use Rattle.std.specs.Prelude.{◌≡◌, ◌≢◌, ℕ, zero, suc, ◌+◌, ◌-◌, ◌*◌, ◌^◌, ◌<◌, ◌≤◌, ◌⊎◌, Bool, not, List, [], ◌∷◌, ◌++◌, length, map, take, Option, Some, None, All, Contains, slice_get, is_some, if◌then◌else◌}
use Rattle.inst_logic.specs.declared.signed.Signed.{Signed}
use Rattle.inst_logic.specs.Signed.{complement}
use Rattle.prop_logic.specs.declared.literal.Hint.{Hint}
use Rattle.prop_logic.specs.declared.literal.Step.{Step}
use Rattle.prop_logic.specs.declared.search.Entry.{Entry}
use Rattle.prop_logic.specs.declared.search.Search.{Search}
use Rattle.prop_logic.specs.declared.search.Outcome.{Outcome}
use Rattle.prop_logic.specs.declared.search.Outcome.TheVariants.{Sat, Unsat}
use Rattle.prop_logic.specs.Literal.{cited, IsShownDerivation, StepsBelow}
use Rattle.prop_logic.specs.Solving.{Satisfies, IsSubList, EndsWith}

-- every step is shown by hints, and is about the atoms below n
pub record AreGood (clauses : List (List (Signed ℕ))) (n : ℕ) (steps : List Step) : Type 0 where
  pub shown : IsShownDerivation clauses steps
  pub hinted : All (λ s. s.hints ≢ []) steps
  pub below : StepsBelow n steps

-- the steps show that the core, a part of the assumptions, can't be true with the clauses
pub record IsCore (clauses : List (List (Signed ℕ))) (assumptions core : List (Signed ℕ)) (n : ℕ) (steps : List Step) : Type 0 where
  pub within : IsSubList core assumptions
  pub good : AreGood clauses n steps
  pub last : EndsWith steps (map complement core)

-- no assumption is the complement of another
abbrev pub AreConsistent : List (Signed ℕ) → Type 0
AreConsistent assumptions = All (λ l. All (λ m. m ≢ complement l) assumptions) assumptions

abbrev pub literal_of : ℕ → Bool → Signed ℕ
literal_of atom value = record { positive = value; atom = atom }

-- the value that the literal's atom has makes it false
abbrev pub IsFalseIn : List Entry → Signed ℕ → Type 0
IsFalseIn entries l = (e : Entry) × (slice_get entries l.atom ≡ Some e) × (e.value ≡ not l.positive)

-- some literal of the clause is not false
abbrev pub HasRest : List Entry → List (Signed ℕ) → Type 0
HasRest entries clause = (l : Signed ℕ) × Contains clause l × ¬ IsFalseIn entries l

-- the literal is false, or its complement is assumed
abbrev pub IsOpposed : List (Signed ℕ) → List Entry → Signed ℕ → Type 0
IsOpposed assumptions entries l = IsFalseIn entries l ⊎ Contains assumptions (complement l)

-- the hint cites a clause none of whose literals can be true
abbrev pub IsConflict : List (List (Signed ℕ)) → List Step → List (Signed ℕ) → List Entry → Hint → Type 0
IsConflict clauses steps assumptions entries h = (c : List (Signed ℕ)) × (cited clauses steps h ≡ Some c) × All (IsOpposed assumptions entries) c

-- the literal is the one of the clause that can be true, and nothing is assumed of its atom
pub record IsUnit (assumptions : List (Signed ℕ)) (entries : List Entry) (clause : List (Signed ℕ)) (l : Signed ℕ) : Type 0 where
  pub free : All (λ m. m.atom ≢ l.atom) assumptions
  pub here : Contains clause l
  pub others : All (λ m. (m ≡ l) ⊎ IsOpposed assumptions entries m) clause

-- the reason of the entry that gives the atom its value, if it has one, makes it do so
abbrev pub HasReason : List (List (Signed ℕ)) → List Step → List (Signed ℕ) → List Entry → ℕ → Entry → Type 0
HasReason clauses steps assumptions before atom e = (h : Hint) → e.reason ≡ Some h → (c : List (Signed ℕ)) × (cited clauses steps h ≡ Some c) × IsUnit assumptions before c (literal_of atom e.value)

-- an assumed atom has the assumed value
abbrev pub Follows : List (Signed ℕ) → ℕ → Entry → Type 0
Follows assumptions atom e = (l : Signed ℕ) → Contains assumptions l → l.atom ≡ atom → e.value ≡ l.positive

pub record IsSearch (clauses : List (List (Signed ℕ))) (assumptions : List (Signed ℕ)) (s : Search) : Type 0 where
  pub within : length s.entries.items ≤ s.atoms
  pub reasons : (k : ℕ) (e : Entry) → slice_get s.entries.items k ≡ Some e → HasReason clauses s.steps assumptions (take k s.entries.items) k e
  pub follows : (k : ℕ) (e : Entry) → slice_get s.entries.items k ≡ Some e → Follows assumptions k e
  pub steps : AreGood clauses s.atoms s.steps

-- the clause has the literals of two others that are not about the atom
pub record IsResolvent (one other : List (Signed ℕ)) (atom : ℕ) (clause : List (Signed ℕ)) : Type 0 where
  pub first : All (λ l. (l.atom ≡ atom) ⊎ Contains clause l) one
  pub second : All (λ l. (l.atom ≡ atom) ⊎ Contains clause l) other
  pub from : (l : Signed ℕ) → Contains clause l → (Contains one l ⊎ Contains other l) × (l.atom ≢ atom)

-- the entries as a number in base 3, of n digits: 0 where there is no entry, 1 for one without a reason, 2 for one with it
abbrev pub weight : ℕ → List Entry → ℕ
weight n [] = 0
weight zero (e ∷ es) = 0
weight (suc n) (e ∷ es) = (if is_some e.reason then 2 else 1) * 3 ^ n + weight n es

-- the search went on: for as many atoms, by a greater number
pub record Advances (old new : Search) : Type 0 where
  pub atoms : new.atoms ≡ old.atoms
  pub risen : weight old.atoms old.entries.items < weight old.atoms new.entries.items

-- an entry was put in the place of one without a reason, and the later ones went
pub record Turns (old new : List Entry) : Type 0 where
  pub place : ℕ
  pub before : Entry
  pub after : Entry
  pub reason : Hint
  pub at : slice_get old place ≡ Some before
  pub chosen : before.reason ≡ None
  pub turned : after.reason ≡ Some reason
  pub grown : new ≡ take place old ++ after ∷ []

-- the last entry went, and with it the conflict, or the conflict is another
abbrev pub Undoes : List (List (Signed ℕ)) → List (Signed ℕ) → Search → Search → Option Hint → Type 0
Undoes clauses assumptions old new None = Turns old.entries.items new.entries.items
Undoes clauses assumptions old new (Some h) = (new.entries.items ≡ take (length old.entries.items - 1) old.entries.items) × IsConflict clauses new.steps assumptions new.entries.items h

-- how the search ends
abbrev pub IsOutcome : List (List (Signed ℕ)) → List (Signed ℕ) → ℕ → List Step → Outcome → Type 0
IsOutcome clauses assumptions n steps (Sat valuation) = Satisfies n clauses assumptions valuation
IsOutcome clauses assumptions n steps (Unsat core) = IsCore clauses assumptions core n steps

-- the search goes on, or has ended
abbrev pub Continues : List (List (Signed ℕ)) → List (Signed ℕ) → Search → Search → Option Outcome → Type 0
Continues clauses assumptions old new None = IsSearch clauses assumptions new × Advances old new
Continues clauses assumptions old new (Some o) = (new.atoms ≡ old.atoms) × IsOutcome clauses assumptions old.atoms new.steps o
