-- In a well-formed clause that has a function symbol with arguments, an outermost one is an argument of a literal.
use Rattle.std.proofs.Common.{◌≡◌, ℕ, ◌+◌, ◌-◌, ◌<◌, ◌≤◌, List, [], ◌∷◌, refl, sym, ap, ap₂, ◌∙◌, subst as transport, length, map, take, get_or, Some, Bool, true, false, arith}
use Rattle.std.specs.Prelude.{IsTrue, not, nat_eq, ◌||◌, ◌&&◌}
use Rattle.std.specs.List.{list_any}
use Rattle.std.proofs.lemmas.Bool.Decides.{nat_tests}
use Rattle.std.proofs.lemmas.List.{take_more}
use Rattle.std.proofs.lemmas.List.Folds.{list_any-append}
use Rattle.inst_logic.specs.declared.symbol.Sym.{Sym}
use Rattle.inst_logic.specs.declared.term.Term.{Term}
use Rattle.inst_logic.specs.View.{tree}
use Rattle.inst_logic.specs.Tree.{Tree, var, app, Trees, none, more, of_list, to_list}
use Rattle.inst_logic.specs.Clauses.{TreeClause}
use Rattle.inst_logic.specs.Measure.{tree_applies, trees_apply, clause_applies, is_function_free}
use Rattle.inst_logic.specs.WellFormed.{AreFormedClauses, atom_is_formed, clause_is_formed, count_of, is_function_kind, IsFormedClause, symbol_is_formed, tree_is_formed, trees_are_formed}
use Rattle.inst_logic.proofs.Applications.{same_list}
use Rattle.inst_logic.proofs.Items.{at_number_in}
use Rattle.inst_logic.proofs.Membership.{get_or_in, passes}
use Rattle.inst_logic.proofs.SameLemmas.{and_left, and_right}
use Rattle.inst_logic.proofs.Sums.{list_any_none, list_any_found}
use Rattle.inst_logic.proofs.Booleans.{not_true}
use Rattle.szs_prove.specs.Applications.{atom_has_application, is_application, IsFirstWithFunctions}

or_false : (b : Bool) → (b || false) ≡ b
or_false true = refl
or_false false = refl

some_arguments : (count arity : ℕ) → nat_eq (count + 1) arity ≡ true → not (nat_eq arity 0) ≡ true
some_arguments count arity h = grind (arith, nat_tests)

term_applies : (t : Tree) → tree_is_formed t ≡ true → tree_applies t ≡ is_application t
term_applies (var n) h = refl
term_applies (app s none) h =
    let function : is_function_kind s.kind ≡ true = and_left (is_function_kind s.kind) _ h in
    ap (λ b. (b && not (nat_eq s.arity 0)) || false) function ∙ or_false (not (nat_eq s.arity 0))
term_applies (app s (more t ts)) h =
    let function : is_function_kind s.kind ≡ true = and_left (is_function_kind s.kind) _ h in
    let counted : nat_eq (count_of ts + 1) s.arity ≡ true = and_left (nat_eq (count_of ts + 1) s.arity) _ (and_right (is_function_kind s.kind) _ h) in
    let some : not (nat_eq s.arity 0) ≡ true = some_arguments (count_of ts) s.arity counted in
    ap₂ (λ a b. (a && b) || trees_apply (more t ts)) function some ∙ sym some

terms_apply : (ts : Trees) → trees_are_formed ts ≡ true → trees_apply ts ≡ list_any is_application (to_list ts)
terms_apply none h = refl
terms_apply (more t ts) h = ap₂ (λ a b. a || b) (term_applies t (and_left (tree_is_formed t) _ h)) (terms_apply ts (and_right (tree_is_formed t) _ h))

atom_applies : (a : Tree) → atom_is_formed a ≡ true → tree_applies a ≡ atom_has_application a
atom_applies (var n) h = cc
atom_applies (app s ts) h =
    let f = not (is_function_kind s.kind) in
    let none : is_function_kind s.kind ≡ false = not_true (is_function_kind s.kind) (and_left f _ h) in
    let formed : trees_are_formed ts ≡ true = and_right (nat_eq (count_of ts) s.arity) _ (and_right (symbol_is_formed s) _ (and_right f _ h)) in
    ap (λ b. (b && not (nat_eq s.arity 0)) || trees_apply ts) none ∙ terms_apply ts formed

pub outermost : (c : TreeClause) → IsFormedClause c → clause_applies c ≡ list_any (λ l. atom_has_application l.atom) c
outermost [] h = refl
outermost (l ∷ ls) h = ap₂ (λ a b. a || b) (atom_applies l.atom (and_left (atom_is_formed l.atom) _ h)) (outermost ls (and_right (atom_is_formed l.atom) _ h))

-- ---- the loops

-- one more item that fails a test
pub none_so_far : {A : Type 0} (p : A → Bool) (xs : List A) (i : ℕ) (d : A) → i < length xs → list_any p (take i xs) ≡ false → p (get_or xs i d) ≡ false → list_any p (take (i + 1) xs) ≡ false
none_so_far p xs i d within before here =
    ap (list_any p) (take_more xs i d within) ∙ list_any-append p (take i xs) (get_or xs i d ∷ []) ∙ ap₂ (λ a b. a || (b || false)) before here

module _ (s : Sym) (args : List Tree) (terms : List Term) (are : map tree terms ≡ args) (i : ℕ) where
  pub no_argument : length terms ≤ i → list_any (λ t. is_application (tree t)) (take i terms) ≡ false → atom_has_application (app s (of_list args)) ≡ false
  no_argument past before = ap (list_any is_application) (same_list args ∙ sym are) ∙ list_any_none is_application tree terms i past before

  pub some_argument : (d : Term) → i < length terms → is_application (tree (get_or terms i d)) ≡ true → atom_has_application (app s (of_list args)) ≡ true
  some_argument d within here = ap (list_any is_application) (same_list args ∙ sym are) ∙ list_any_found is_application tree terms i d within here

module _ (cs : List TreeClause) (i : ℕ) (c : TreeClause) (formed : AreFormedClauses cs) (within : i < length cs) (there : c ≡ get_or cs i c) (before : IsTrue (is_function_free (take i cs))) where
  here : clause_applies (get_or cs i c) ≡ list_any (λ l. atom_has_application l.atom) c
  here =
      outermost (get_or cs i c) (passes clause_is_formed cs formed (get_or cs i c) (get_or_in cs i c within))
      ∙ ap (λ (d : TreeClause). list_any (λ l. atom_has_application l.atom) d) (sym there)

  -- one more clause without
  pub free_so_far : list_any (λ l. atom_has_application l.atom) c ≡ false → IsTrue (is_function_free (take (i + 1) cs))
  free_so_far nothing = ap not (none_so_far clause_applies cs i c within (not_true (list_any clause_applies (take i cs)) before) (here ∙ nothing))

  pub first_found : list_any (λ l. atom_has_application l.atom) c ≡ true → IsFirstWithFunctions cs (i + 1)
  first_found some =
      let same : i + 1 - 1 ≡ i = omega arith in
      record {
        clause = get_or cs i c;
        is = at_number_in cs (i + 1) c (omega arith) (omega arith) ∙ ap (λ n. Some (get_or cs n c)) same;
        applies = here ∙ some;
        first = transport (λ n. IsTrue (is_function_free (take n cs))) (sym same) before;
      }
