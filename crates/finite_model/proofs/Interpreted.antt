-- A model as a test of the ground atoms of the flattened form. A symbol's number is read from its name. Terms other than the
-- constants for the elements count as the element 1.
use Rattle.std.proofs.Common.{◌≡◌, ℕ, ◌-◌, ◌^◌, ◌<◌, List, [], ◌∷◌, ◌++◌, refl, ap, ◌∙◌, map, length, get_or, Bool, true, false, cond, nat_eq, arith}
use Rattle.std.specs.Prelude.{nat_lt, nat_le, decimal}
use Rattle.std.specs.List.{position_or_len}
use Rattle.std.specs.Str.Parse.{digits_value}
use Rattle.std.proofs.lemmas.Fmt.{decimal_is_IsNumeral}
use Rattle.inst_logic.specs.declared.symbol.Sym.{Sym}
use Rattle.inst_logic.specs.Tree.{Tree, var, app, of_list, to_list}
use Rattle.inst_logic.specs.Equal.{sym_eq}
use Rattle.inst_logic.specs.Clauses.{TreeClause}
use Rattle.inst_logic.proofs.Applications.{same_list}
use Rattle.inst_logic.proofs.SameLemmas.{sym_eq_decides}
use Rattle.inst_logic.proofs.Numbers.{less_yes, less_equal, is_less, at_most}
use Rattle.inst_logic.proofs.Membership.{◌∈◌}
use Rattle.inst_calculus.proofs.Distinct.{map_append}
use Rattle.finite_model.specs.declared.tables.Tables.{Tables}
use Rattle.finite_model.specs.Tables.{IsElement, cell_at, functions_of, predicates_of}
use Rattle.finite_model.specs.Flattening.{numbers_of, number_of, function_predicate, numbered_predicate, identity, element, applied}
use Rattle.inst_calculus.proofs.MadeLists.{item_at_position, position_below}

-- the number behind the first letter of a name
abbrev pub name_number : List ℕ → ℕ
name_number [] = 0
name_number (b ∷ bs) = digits_value 10 bs

abbrev first_letter : List ℕ → ℕ
first_letter [] = 0
first_letter (b ∷ bs) = b

-- the number where it is an element, and 1 elsewhere
abbrev clamped : ℕ → ℕ → ℕ
clamped k n = cond (nat_lt 0 n) (cond (nat_le n k) n 1) 1

abbrev pub element_of : ℕ → Tree → ℕ
element_of k (var v) = 1
element_of k (app s us) = clamped k (name_number s.name)

abbrev front : List ℕ → List ℕ
front [] = []
front (x ∷ []) = []
front (x ∷ y ∷ ys) = x ∷ front (y ∷ ys)

abbrev final : List ℕ → ℕ
final [] = 0
final (x ∷ []) = x
final (x ∷ y ∷ ys) = final (y ∷ ys)

front_of : (xs : List ℕ) (y : ℕ) → front (xs ++ y ∷ []) ≡ xs
front_of [] y = refl
front_of (x ∷ []) y = refl
front_of (x ∷ z ∷ zs) y = ap (λ l. x ∷ l) (front_of (z ∷ zs) y)

final_of : (xs : List ℕ) (y : ℕ) → final (xs ++ y ∷ []) ≡ y
final_of [] y = refl
final_of (x ∷ []) y = refl
final_of (x ∷ z ∷ zs) y = final_of (z ∷ zs) y

abbrev pub same_test : List ℕ → Bool
same_test [] = false
same_test (d ∷ []) = false
same_test (d ∷ e ∷ []) = nat_eq d e
same_test (d ∷ e ∷ _ ∷ _) = false

pub clamped_element : (k e : ℕ) → IsElement k e → clamped k e ≡ e
clamped_element k e h = rw (less_yes 0 e h.above, less_equal e k h.within) refl

clamped_is_element : (k n : ℕ) → 0 < k → IsElement k (clamped k n)
clamped_is_element k n positive = go (nat_lt 0 n) (nat_le n k) refl refl
  where
    go : (b c : Bool) → nat_lt 0 n ≡ b → nat_le n k ≡ c → IsElement k (cond b (cond c n 1) 1)
    go true true p q = record { above = is_less 0 n p; within = at_most n k q }
    go true false p q = record { above = omega arith; within = omega arith }
    go false c p q = record { above = omega arith; within = omega arith }

pub element_of_is_element : (k : ℕ) (t : Tree) → 0 < k → IsElement k (element_of k t)
element_of_is_element k (var v) positive = record { above = omega arith; within = omega arith }
element_of_is_element k (app s us) positive = clamped_is_element k (name_number s.name) positive

pub element_of_element : (k e : ℕ) → IsElement k e → k < 2 ^ 64 → element_of k (element e) ≡ e
element_of_element k e h few = ap (clamped k) (decimal_is_IsNumeral e (omega (arith, h.within))).1 ∙ clamped_element k e h

-- the symbol with the number, counted from 1
abbrev symbol_at : List Sym → ℕ → Sym
symbol_at ss n = get_or ss (n - 1) identity

pub numbered_symbol : (ss : List Sym) (s : Sym) → s ∈ ss → length ss < 2 ^ 64 → symbol_at ss (digits_value 10 (decimal (number_of ss s))) ≡ s
numbered_symbol ss s i few =
    let below = position_below sym_eq sym_eq_decides s ss i in
    let number : digits_value 10 (decimal (number_of ss s)) ≡ number_of ss s = (decimal_is_IsNumeral (number_of ss s) (omega (arith, below))).1 in
    let place : number_of ss s - 1 ≡ position_or_len (λ r. sym_eq r s) ss = omega arith in
    ap (symbol_at ss) number ∙ ap (λ n. get_or ss n identity) place ∙ item_at_position sym_eq sym_eq_decides s identity ss i

module _ (k : ℕ) (cs : List TreeClause) (ts : Tables) where
  -- by the first letter of the name: `f` and a number, `p` and a number, or `id`
  abbrev named_test : ℕ → ℕ → List ℕ → Bool
  named_test letter n es =
      cond (nat_eq letter 102) (nat_eq (cell_at k ts.functions (symbol_at (functions_of cs) n) (front es)) (final es))
      (cond (nat_eq letter 112) (nat_eq (cell_at k ts.predicates (symbol_at (predicates_of cs) n) es) 1) (same_test es))

  abbrev pub atom_test : Tree → Bool
  atom_test (var v) = false
  atom_test (app s us) = named_test (first_letter s.name) (name_number s.name) (map (element_of k) (to_list us))

  pub test_of_identity : (us : List Tree) → atom_test (applied identity us) ≡ same_test (map (element_of k) us)
  test_of_identity us = ap (λ xs. same_test (map (element_of k) xs)) (same_list us)

  pub test_of_predicate : (p : Sym) → p ∈ predicates_of cs → length (predicates_of cs) < 2 ^ 64 → (us : List Tree)
      → atom_test (applied (numbered_predicate (numbers_of cs) p) us) ≡ nat_eq (cell_at k ts.predicates p (map (element_of k) us)) 1
  test_of_predicate p i few us = λ j. nat_eq (cell_at k ts.predicates (numbered_symbol (predicates_of cs) p i few j) (map (element_of k) (same_list us j))) 1

  pub test_of_function : (f : Sym) → f ∈ functions_of cs → length (functions_of cs) < 2 ^ 64 → (us : List Tree) (u : Tree)
      → atom_test (applied (function_predicate (numbers_of cs) f) (us ++ u ∷ [])) ≡ nat_eq (cell_at k ts.functions f (map (element_of k) us)) (element_of k u)
  test_of_function f i few us u =
      (λ j. nat_eq (cell_at k ts.functions (numbered_symbol (functions_of cs) f i few j) (front (arguments j))) (final (arguments j)))
      ∙ (λ j. nat_eq (cell_at k ts.functions f (front_of (map (element_of k) us) (element_of k u) j)) (final_of (map (element_of k) us) (element_of k u) j))
    where
      arguments : map (element_of k) (to_list (of_list (us ++ u ∷ []))) ≡ map (element_of k) us ++ element_of k u ∷ []
      arguments = ap (map (element_of k)) (same_list (us ++ u ∷ [])) ∙ map_append (element_of k) us (u ∷ [])
