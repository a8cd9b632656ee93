-- The literals and arguments of an axiom of congruence, and the axioms of a list of symbols, one after another.
use Rattle.std.proofs.Common.{◌≡◌, ℕ, zero, suc, ◌+◌, ◌*◌, ◌<◌, List, [], ◌∷◌, ◌++◌, refl, ap, ◌∙◌, map, Bool, true, false, cond, arith, take, length, get_or}
use Rattle.std.specs.Prelude.{filter}
use Rattle.std.proofs.lemmas.List.{map-append, take_more}
use Rattle.std.proofs.lemmas.List.Elements.{filter-append}
use Rattle.inst_logic.specs.Tree.{Tree, var, of_list, more}
use Rattle.inst_calculus.specs.Axioms.{unequal, unequal_pairs, every_second}

pairs_suc : (k n : ℕ) → unequal_pairs k (suc n) ≡ unequal_pairs k n ++ unequal (var (k + n * 2)) (var (k + n * 2 + 1)) ∷ []
pairs_suc k zero = ap (λ m. unequal (var m) (var (m + 1)) ∷ []) (omega arith)
pairs_suc k (suc n) =
    ap (λ c. unequal (var k) (var (k + 1)) ∷ c)
    (pairs_suc (k + 2) n ∙ ap (λ m. unequal_pairs (k + 2) n ++ unequal (var m) (var (m + 1)) ∷ []) (omega arith))

-- one more literal
pub pairs_more : (n : ℕ) → unequal_pairs 0 (n + 1) ≡ unequal_pairs 0 n ++ unequal (var (n * 2)) (var (n * 2 + 1)) ∷ []
pairs_more n =
    let one : n + 1 ≡ suc n = omega arith in
    let at : 0 + n * 2 ≡ n * 2 = omega arith in
    ap (unequal_pairs 0) one ∙ pairs_suc 0 n ∙ ap (λ m. unequal_pairs 0 n ++ unequal (var m) (var (m + 1)) ∷ []) at

-- so many variables as a list
abbrev pub variables : ℕ → ℕ → List Tree
variables k zero = []
variables k (suc n) = var k ∷ variables (k + 2) n

pub variables_are : (k n : ℕ) → of_list (variables k n) ≡ every_second k n
variables_are k zero = refl
variables_are k (suc n) = ap (more (var k)) (variables_are (k + 2) n)

variables_suc : (k n : ℕ) → variables k (suc n) ≡ variables k n ++ var (k + n * 2) ∷ []
variables_suc k zero = ap (λ m. var m ∷ []) (omega arith)
variables_suc k (suc n) = ap (λ ts. var k ∷ ts) (variables_suc (k + 2) n ∙ ap (λ m. variables (k + 2) n ++ var m ∷ []) (omega arith))

-- one more argument
pub variables_more : (k n : ℕ) → variables k (n + 1) ≡ variables k n ++ var (k + n * 2) ∷ []
variables_more k n = let one : n + 1 ≡ suc n = omega arith in ap (variables k) one ∙ variables_suc k n

module _ {A B : Type 0} (f : A → B) (test : A → Bool) where
  one_more : (x : A) (b : Bool) → test x ≡ b → map f (filter test (x ∷ [])) ≡ cond b (f x ∷ []) []
  one_more x true e = rw e refl
  one_more x false e = rw e refl

  -- what passes the test among the first items and one more
  pub filtered_more : (xs : List A) (i : ℕ) (d : A) → i < length xs → map f (filter test (take (i + 1) xs)) ≡ map f (filter test (take i xs)) ++ cond (test (get_or xs i d)) (f (get_or xs i d) ∷ []) []
  filtered_more xs i d within =
      ap (λ ys. map f (filter test ys)) (take_more xs i d within)
      ∙ ap (map f) (filter-append test (take i xs) (get_or xs i d ∷ []))
      ∙ map-append f (filter test (take i xs)) (filter test (get_or xs i d ∷ []))
      ∙ ap (λ ys. map f (filter test (take i xs)) ++ ys) (one_more (get_or xs i d) (test (get_or xs i d)) refl)
