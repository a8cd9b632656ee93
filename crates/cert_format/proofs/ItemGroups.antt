-- The groups of sorted items, how many they are, and the clauses of each.
use Rattle.std.proofs.Common.{◌≡◌, ℕ, suc, ◌<◌, ◌≤◌, Bool, true, false, cond, List, [], ◌∷◌, ◌++◌, length, map, refl, sym, ap, ◌∙◌, subst, arith}
use Rattle.std.specs.Prelude.{nat_eq, nat_le}
use Rattle.std.specs.List.{list_all}
use Rattle.std.proofs.lemmas.Bool.Decides.{nat_tests}
use Rattle.inst_logic.specs.Clauses.{TreeClause}
use Rattle.inst_logic.proofs.Numbers.{number_is}
use Rattle.cert_format.specs.LineMachine.{Note, rank, clauses_if, base_clauses, shown_clauses, Item, Header, count, fits}
use Rattle.std.proofs.lemmas.Bool.{and_parts, and_from}
use Rattle.cert_format.proofs.LineTexts.{count_append, count_own}
use Rattle.cert_format.proofs.ValueRuns.{IsSorted, good}
use Rattle.cert_format.proofs.ValueLaws.{only}

-- ---- the groups of sorted items

only_above : (j k : ℕ) (is : List Item) → IsSorted j is → k < j → only k is ≡ []
only_above j k [] s h = refl
only_above j k (i ∷ is) s h =
    let a = s.0 in
    let no : nat_eq (rank i.note) k ≡ false = (let b : k < rank i.note = omega arith in grind (arith, nat_tests)) in
    ap (λ (t : Bool). cond t (i ∷ only k is) (only k is)) no ∙ only_above (rank i.note) k is s.1 (omega arith)

pub record IsSplit (k : ℕ) (is : List Item) : Type 0 where
  pub rest : List Item
  pub parts : is ≡ only k is ++ rest
  pub sorted : IsSorted (suc k) rest

pub front : (k : ℕ) (is : List Item) → IsSorted k is → IsSplit k is
front k [] s = record { rest = []; parts = refl; sorted = tt }
front k (i ∷ is) s = by (nat_eq (rank i.note) k) refl (λ e. front k is (subst (λ (r : ℕ). IsSorted r is) (number_is (rank i.note) k e) s.1))
  where
    by : (t : Bool) → nat_eq (rank i.note) k ≡ t → (nat_eq (rank i.note) k ≡ true → IsSplit k is) → IsSplit k (i ∷ is)
    by true e more =
        let r = more e in
        record { rest = r.rest; parts = ap (λ (xs : List Item). i ∷ xs) r.parts ∙ ap (λ (t : Bool). cond t (i ∷ only k is) (only k is) ++ r.rest) (sym e); sorted = r.sorted }
    by false e more =
        let a = s.0 in
        let b : suc k ≤ rank i.note = grind (arith, nat_tests) in
        record { rest = i ∷ is; parts = sym (ap (λ (xs : List Item). xs ++ i ∷ is) (only_above (suc k) k (i ∷ is) (b, s.1) (omega arith))); sorted = (b, s.1) }

pub only_ranks : (k : ℕ) (is : List Item) → list_all (λ (i : Item). nat_eq (rank i.note) k) (only k is) ≡ true
only_ranks k [] = refl
only_ranks k (i ∷ is) = by (nat_eq (rank i.note) k) refl (only_ranks k is)
  where
    by : (t : Bool) → nat_eq (rank i.note) k ≡ t → list_all (λ (x : Item). nat_eq (rank x.note) k) (only k is) ≡ true → list_all (λ (x : Item). nat_eq (rank x.note) k) (cond t (i ∷ only k is) (only k is)) ≡ true
    by true e h = and_from (nat_eq (rank i.note) k) _ e h
    by false e h = h

-- each item is of the group of this number
abbrev pub IsGroup : ℕ → List Item → Type 0
IsGroup k is = list_all (λ (i : Item). nat_eq (rank i.note) k) is ≡ true

abbrev pub clauses_of : List Item → List TreeClause
clauses_of is = map (λ (i : Item). i.clause) is

pub front_length : (m k : ℕ) (is js : List Item) → IsGroup k is → count k (is ++ js) < m → length is < m
front_length m k is js g h = let a = count_append k is js in let b = count_own k is g in omega arith

pub behind_length : (m k : ℕ) (is js : List Item) → count k (is ++ js) < m → count k js < m
behind_length m k is js h = let a = count_append k is js in omega arith

-- the clauses of a group, of inputs and axioms, and of what shows them
pub base_own : (k : ℕ) → nat_le k 1 ≡ true → (is : List Item) → IsGroup k is → base_clauses is ≡ clauses_of is
base_own k e [] h = refl
base_own k e (i ∷ is) h =
    let a = and_parts (nat_eq (rank i.note) k) _ h in
    ap (λ (t : Bool). clauses_if t i.clause (base_clauses is)) (ap (λ (j : ℕ). nat_le j 1) (number_is (rank i.note) k a.0) ∙ e) ∙ ap (λ (xs : List TreeClause). i.clause ∷ xs) (base_own k e is a.1)

pub base_other : (k : ℕ) → nat_le k 1 ≡ false → (is : List Item) → IsGroup k is → base_clauses is ≡ []
base_other k e [] h = refl
base_other k e (i ∷ is) h =
    let a = and_parts (nat_eq (rank i.note) k) _ h in
    ap (λ (t : Bool). clauses_if t i.clause (base_clauses is)) (ap (λ (j : ℕ). nat_le j 1) (number_is (rank i.note) k a.0) ∙ e) ∙ base_other k e is a.1

pub shown_own : (is : List Item) → IsGroup 5 is → shown_clauses is ≡ clauses_of is
shown_own [] h = refl
shown_own (i ∷ is) h =
    let a = and_parts (nat_eq (rank i.note) 5) _ h in
    ap (λ (t : Bool). clauses_if t i.clause (shown_clauses is)) a.0 ∙ ap (λ (xs : List TreeClause). i.clause ∷ xs) (shown_own is a.1)

pub shown_other : (k : ℕ) → nat_eq k 5 ≡ false → (is : List Item) → IsGroup k is → shown_clauses is ≡ []
shown_other k e [] h = refl
shown_other k e (i ∷ is) h =
    let a = and_parts (nat_eq (rank i.note) k) _ h in
    ap (λ (t : Bool). clauses_if t i.clause (shown_clauses is)) (ap (λ (j : ℕ). nat_eq j 5) (number_is (rank i.note) k a.0) ∙ e) ∙ shown_other k e is a.1

pub none_left : (h : Header) (k : ℕ) → ((note : Note) → fits h note ≡ true → rank note ≤ k) → (is : List Item) → IsSorted (suc k) is → list_all (good h) is ≡ true → is ≡ []
none_left h k low [] s g = refl
none_left h k low (i ∷ is) s g = absurd (let a = low i.note (and_parts (fits h i.note) _ (and_parts (good h i) _ g).0).0 in let b = s.0 in omega arith)
