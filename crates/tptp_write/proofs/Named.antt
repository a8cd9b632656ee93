-- The texts of a canonical clause's variables have the places of the variables.
use Rattle.std.proofs.Common.{◌≡◌, ℕ, ◌+◌, ◌≤◌, Bool, true, false, cond, List, [], ◌∷◌, ◌++◌, length, map, refl, sym, ap, ◌∙◌, arith, eq-eqb, eqb-true, le-leb}
use Rattle.std.proofs.Common as common
use Rattle.std.specs.Prelude.{◌&&◌, not, filter, nat_eq, nat_le, decimal}
use Rattle.std.specs.List.{list_all, prefix_len, position_or_len}
use Rattle.std.specs.Str.{bytes_eq}
use Rattle.std.specs.Cmp.Lexicographic.{bytes_decides}
use Rattle.std.proofs.lemmas.Bool.Decides.{nat_tests}
use Rattle.std.proofs.lemmas.Fmt.{decimal_injective}
use Rattle.std.proofs.lemmas.List.{length-map}
use Rattle.std.proofs.lemmas.List.Folds.{list_all-append}
use Rattle.inst_logic.specs.declared.signed.Signed.{Signed}
use Rattle.inst_logic.specs.Tree.{Tree, var, app, Trees, none, more}
use Rattle.inst_logic.specs.Lists.{distinct}
use Rattle.inst_logic.specs.Equal.{literal_eq}
use Rattle.inst_logic.specs.Substitution.{Substitution, subst, substs, subst_literal, tree_vars, trees_vars, clause_vars}
use Rattle.inst_logic.specs.Clauses.{TreeClause, numbered, order_of, IsCanonical}
use Rattle.tptp_write.proofs.Written.{variable_text}
use Rattle.tptp_write.proofs.Tokens.{both_true, and_both}

-- ---- lists

filter_len : {A : Type 0} (p : A → Bool) (xs : List A) → length (filter p xs) ≤ length xs
filter_len p [] = omega arith
filter_len {A} p (x ∷ xs) = by (p x) (filter_len p xs) where
  by : (b : Bool) → length (filter p xs) ≤ length xs → length (cond b (x ∷ filter p xs) (filter p xs)) ≤ length (x ∷ xs)
  by true h = omega (arith, h)
  by false h = omega (arith, h)

filter_full : {A : Type 0} (p : A → Bool) (xs : List A) → length (filter p xs) ≡ length xs → filter p xs ≡ xs
filter_full p [] e = refl
filter_full {A} p (x ∷ xs) e = by (p x) (filter_len p xs) (filter_full p xs) e where
  by : (b : Bool) → length (filter p xs) ≤ length xs → (length (filter p xs) ≡ length xs → filter p xs ≡ xs) → length (cond b (x ∷ filter p xs) (filter p xs)) ≡ length (x ∷ xs) → cond b (x ∷ filter p xs) (filter p xs) ≡ x ∷ xs
  by true le h e = ap (λ ys. x ∷ ys) (h (omega (arith, e)))
  by false le h e = absurd (omega (arith, le, e))

distinct_len : {A : Type 0} (same : A → A → Bool) (xs : List A) → length (distinct same xs) ≤ length xs
distinct_len same [] = omega arith
distinct_len same (x ∷ xs) = omega (arith, filter_len (λ y. not (same x y)) (distinct same xs), distinct_len same xs)

-- where nothing is dropped the list is as it was
distinct_full : {A : Type 0} (same : A → A → Bool) (xs : List A) → length (distinct same xs) ≡ length xs → distinct same xs ≡ xs
distinct_full same [] e = refl
distinct_full same (x ∷ xs) e =
    let rest = distinct same xs in
    let shorter = filter_len (λ y. not (same x y)) rest in
    let shorter' = distinct_len same xs in
    let whole : rest ≡ xs = distinct_full same xs (omega (arith, e, shorter, shorter')) in
    let kept : filter (λ y. not (same x y)) rest ≡ rest = filter_full (λ y. not (same x y)) rest (omega (arith, e, shorter, shorter')) in
    ap (λ ys. x ∷ ys) (kept ∙ whole)

filter_all : {A : Type 0} (q p : A → Bool) (xs : List A) → list_all p xs ≡ true → list_all p (filter q xs) ≡ true
filter_all q p [] h = refl
filter_all {A} q p (x ∷ xs) h = let both = both_true (p x) (list_all p xs) h in by (q x) both.0 (filter_all q p xs both.1) where
  by : (b : Bool) → p x ≡ true → list_all p (filter q xs) ≡ true → list_all p (cond b (x ∷ filter q xs) (filter q xs)) ≡ true
  by true e g = and_both (p x) (list_all p (filter q xs)) e g
  by false e g = g

distinct_all : {A : Type 0} (same : A → A → Bool) (p : A → Bool) (xs : List A) → list_all p xs ≡ true → list_all p (distinct same xs) ≡ true
distinct_all same p [] h = refl
distinct_all same p (x ∷ xs) h =
    let both = both_true (p x) (list_all p xs) h in
    and_both (p x) _ both.0 (filter_all (λ y. not (same x y)) p (distinct same xs) (distinct_all same p xs both.1))

prefix_within : {A : Type 0} (p : A → Bool) (xs : List A) → prefix_len p xs ≤ length xs
prefix_within p [] = omega arith
prefix_within {A} p (x ∷ xs) = by (p x) (prefix_within p xs) where
  by : (b : Bool) → prefix_len p xs ≤ length xs → cond b (1 + prefix_len p xs) 0 ≤ length (x ∷ xs)
  by true h = omega (arith, h)
  by false h = omega arith

-- ---- the clause is as its variables are numbered

pub renamed : (c : TreeClause) → IsCanonical c → map (subst_literal (numbered (order_of c))) c ≡ c
renamed c e =
    let other = map (subst_literal (numbered (order_of c))) c in
    let len : length other ≡ length c = length-map c (subst_literal (numbered (order_of c))) in
    sym (distinct_full literal_eq other (omega (arith, len, ap length e))) ∙ e

abbrev pub small : ℕ → Bool
small n = nat_le n 10000

abbrev mutual
  pub small_tree : Tree → Bool
  small_tree (var n) = small n
  small_tree (app s ts) = small_trees ts

  pub small_trees : Trees → Bool
  small_trees none = true
  small_trees (more t ts) = small_tree t && small_trees ts

abbrev pub small_literal : Signed Tree → Bool
small_literal l = small_tree l.atom

module _ (s : Substitution) (h : (v : ℕ) → small_tree (s v) ≡ true) where
  mutual
    subst_small : (t : Tree) → small_tree (subst s t) ≡ true
    subst_small (var n) = h n
    subst_small (app f ts) = substs_small ts

    substs_small : (ts : Trees) → small_trees (substs s ts) ≡ true
    substs_small none = refl
    substs_small (more t ts) = and_both (small_tree (subst s t)) (small_trees (substs s ts)) (subst_small t) (substs_small ts)

  literals_small : (c : TreeClause) → list_all small_literal (map (subst_literal s) c) ≡ true
  literals_small [] = refl
  literals_small (l ∷ ls) = and_both (small_tree (subst s l.atom)) (list_all small_literal (map (subst_literal s) ls)) (subst_small l.atom) (literals_small ls)

within_small : (n k : ℕ) → n ≤ k → k ≤ 10000 → small n ≡ true
within_small n k le l = le-leb n 10000 (omega (arith, le, l))

pub is_small : (c : TreeClause) → IsCanonical c → length (order_of c) ≤ 10000 → list_all small_literal c ≡ true
is_small c e l =
    common.subst (λ (d : TreeClause). list_all small_literal d ≡ true) (renamed c e)
    (literals_small (numbered (order_of c)) (λ v. within_small (position_or_len (λ w. nat_eq w v) (order_of c)) (length (order_of c)) (prefix_within (λ w. not (nat_eq w v)) (order_of c)) l) c)

mutual
  tree_vars_small : (t : Tree) → small_tree t ≡ true → list_all small (tree_vars t) ≡ true
  tree_vars_small (var n) h = and_both (small n) true h refl
  tree_vars_small (app s ts) h = trees_vars_small ts h

  trees_vars_small : (ts : Trees) → small_trees ts ≡ true → list_all small (trees_vars ts) ≡ true
  trees_vars_small none h = refl
  trees_vars_small (more t ts) h =
      let both = both_true (small_tree t) (small_trees ts) h in
      list_all-append small (tree_vars t) (trees_vars ts) ∙ and_both (list_all small (tree_vars t)) (list_all small (trees_vars ts)) (tree_vars_small t both.0) (trees_vars_small ts both.1)

clause_vars_small : (c : TreeClause) → list_all small_literal c ≡ true → list_all small (clause_vars c) ≡ true
clause_vars_small [] h = refl
clause_vars_small (l ∷ ls) h =
    let both = both_true (small_tree l.atom) (list_all small_literal ls) h in
    list_all-append small (tree_vars l.atom) (clause_vars ls) ∙ and_both (list_all small (tree_vars l.atom)) (list_all small (clause_vars ls)) (tree_vars_small l.atom both.0) (clause_vars_small ls both.1)

-- ---- texts of variables

same_tests : (a b : Bool) → (a ≡ true → b ≡ true) → (b ≡ true → a ≡ true) → a ≡ b
same_tests true b f g = sym (f refl)
same_tests false true f g = g refl
same_tests false false f g = refl

small_is : (n : ℕ) → small n ≡ true → n ≤ 10000
small_is n h = grind (arith, nat_tests)

same_text : (m n : ℕ) → small m ≡ true → small n ≡ true → bytes_eq (variable_text m) (variable_text n) ≡ nat_eq m n
same_text m n p q =
    let a = small_is m p in
    let b = small_is n q in
    same_tests (bytes_eq (decimal m) (decimal n)) (nat_eq m n)
    (λ e. eq-eqb m n (decimal_injective m n (omega (arith, a)) (omega (arith, b)) ((bytes_decides (decimal m) (decimal n)).0 e)))
    (λ e. (bytes_decides (decimal m) (decimal n)).1 (ap decimal (eqb-true m n e)))

filter_texts : (n : ℕ) (xs : List ℕ) → small n ≡ true → list_all small xs ≡ true → filter (λ y. not (bytes_eq (variable_text n) y)) (map variable_text xs) ≡ map variable_text (filter (λ y. not (nat_eq n y)) xs)
filter_texts n [] h all = refl
filter_texts n (x ∷ xs) h all =
    let both = both_true (small x) (list_all small xs) all in
    by (bytes_eq (variable_text n) (variable_text x)) (nat_eq n x) (same_text n x h both.0) (filter_texts n xs h both.1)
  where
    by : (a b : Bool) → a ≡ b → filter (λ y. not (bytes_eq (variable_text n) y)) (map variable_text xs) ≡ map variable_text (filter (λ y. not (nat_eq n y)) xs)
        → cond (not a) (variable_text x ∷ filter (λ y. not (bytes_eq (variable_text n) y)) (map variable_text xs)) (filter (λ y. not (bytes_eq (variable_text n) y)) (map variable_text xs))
        ≡ map variable_text (cond (not b) (x ∷ filter (λ y. not (nat_eq n y)) xs) (filter (λ y. not (nat_eq n y)) xs))
    by true true e g = g
    by false false e g = ap (λ ys. variable_text x ∷ ys) g
    by true false e g = absurd cc
    by false true e g = absurd cc

pub distinct_texts : (xs : List ℕ) → list_all small xs ≡ true → distinct bytes_eq (map variable_text xs) ≡ map variable_text (distinct nat_eq xs)
distinct_texts [] all = refl
distinct_texts (x ∷ xs) all =
    let both = both_true (small x) (list_all small xs) all in
    ap (λ ys. variable_text x ∷ filter (λ y. not (bytes_eq (variable_text x) y)) ys) (distinct_texts xs both.1)
    ∙ ap (λ ys. variable_text x ∷ ys) (filter_texts x (distinct nat_eq xs) both.0 (distinct_all nat_eq small xs both.1))

place_of : (n : ℕ) (xs : List ℕ) → small n ≡ true → list_all small xs ≡ true → position_or_len (λ v. bytes_eq v (variable_text n)) (map variable_text xs) ≡ position_or_len (λ w. nat_eq w n) xs
place_of n [] h all = refl
place_of n (x ∷ xs) h all =
    let both = both_true (small x) (list_all small xs) all in
    let first = same_text x n both.0 h in
    let next = place_of n xs h both.1 in
    λ i. cond (not (first i)) (1 + next i) 0

pub order_texts : (c : TreeClause) → list_all small_literal c ≡ true → distinct bytes_eq (map variable_text (clause_vars c)) ≡ map variable_text (order_of c)
order_texts c h = distinct_texts (clause_vars c) (clause_vars_small c h)

pub place_is : (c : TreeClause) (n : ℕ) → list_all small_literal c ≡ true → small n ≡ true → position_or_len (λ v. bytes_eq v (variable_text n)) (map variable_text (order_of c)) ≡ position_or_len (λ w. nat_eq w n) (order_of c)
place_is c n h s = place_of n (order_of c) s (distinct_all nat_eq small (clause_vars c) (clause_vars_small c h))
