-- The form of a printed clause fits, and gives the clause.
use Rattle.std.proofs.Common.{◌≡◌, ℕ, ◌+◌, ◌≤◌, Bool, true, false, cond, List, [], ◌∷◌, ◌++◌, length, map, None, Ok, refl, sym, ap, ◌∙◌, arith, eqb-true, append-nil}
use Rattle.std.proofs.Common as common
use Rattle.std.specs.Prelude.{◌&&◌, not, nat_eq, nat_le, codes}
use Rattle.std.specs.List.{list_all, list_any, flat_map, position_or_len}
use Rattle.std.specs.Str.{bytes_eq}
use Rattle.std.specs.Cmp.Lexicographic.{bytes_decides}
use Rattle.std.proofs.lemmas.Bool.Decides.{nat_tests}
use Rattle.std.proofs.lemmas.List.{length-map}
use Rattle.inst_logic.specs.declared.symbol.Kind.{Kind}
use Rattle.inst_logic.specs.declared.symbol.Kind.TheVariants.{Predicate, Equality, Function}
use Rattle.inst_logic.specs.declared.signed.Signed.{Signed}
use Rattle.inst_logic.specs.Tree.{Tree, var, app, Trees}
use Rattle.inst_logic.specs.Tree as tree
use Rattle.inst_logic.specs.Lists.{distinct}
use Rattle.inst_logic.specs.Substitution.{Substitution, subst, substs, subst_literal, tree_vars, clause_vars}
use Rattle.inst_logic.specs.Clauses.{TreeClause, numbered, order_of}
use Rattle.inst_logic.specs.WellFormed.{count_of, fits_kind, is_function_kind, symbol_is_formed, tree_is_formed, trees_are_formed, atom_is_formed, clause_is_formed}
use Rattle.inst_logic.specs.Printing.{is_lower_word, is_readable_name}
use Rattle.tptp_read.specs.declared.statement.Role.TheVariants.{Axiom}
use Rattle.tptp_read.specs.declared.statement.Statement.TheVariants.{Cnf}
use Rattle.tptp_read.specs.Lexemes.{lower}
use Rattle.tptp_read.specs.Grammar.{simple_fits, items_fit, form_fits}
use Rattle.tptp_read.specs.Meaning.{Wrote, predicate, equal, from_simple, from_items, is_truth, is_constant_atom, used_tokens, tokens_of, first_feature, variable_names, count, wrote_wide, tree_of, trees_of, predicate_of, literal_of, is_always, read_cnf, judged}
use Rattle.tptp_write.specs.Again.{tree_is_narrow, trees_are_narrow, CanBeRead}
use Rattle.tptp_write.proofs.Written.{variable_text, written, headed, writtens, sides_of, simple_by, simple_tree, simple_of, items_of, form_of, good_tree, good_trees, good_sides, good_by, good_atom, good_literal}
use Rattle.tptp_write.proofs.Tokens.{both_true, and_both}
use Rattle.tptp_write.proofs.Named.{renamed, small, is_small, order_texts, place_is}
use Rattle.tptp_write.proofs.Meant.{name_is, no_variable, no_dollar, atom_fits, equation_fits, from_atom, from_equation, supported, all_two, none_first, two_names, counted, or_both, tree_supported, headed_supported, tree_names, headed_names, tree_narrow, headed_narrow, all_good}
use Rattle.inst_logic.proofs.Formed.{function_of}

cond_no : {A : Type 0} (b : Bool) (x y : A) → b ≡ false → cond b x y ≡ y
cond_no true x y e = absurd cc
cond_no false x y e = refl

no_truth : (word name : List ℕ) (ts : Trees) → is_truth word (headed name ts) ≡ false
no_truth word name tree.none = let other = no_dollar (is_lower_word name) in rw other refl
no_truth word name (tree.more t ts) = refl

no_constant : (name : List ℕ) (ts : Trees) → is_constant_atom (headed name ts) ≡ false
no_constant name ts = or_both (is_truth (codes "$true") (headed name ts)) (is_truth (codes "$false") (headed name ts)) (no_truth (codes "$true") name ts) (no_truth (codes "$false") name ts)

not_always : (positive : Bool) (name : List ℕ) (ts : Trees) → is_always (predicate positive (headed name ts)) ≡ false
not_always true name ts = no_truth (codes "$true") name ts
not_always false name ts = no_truth (codes "$false") name ts

module _ (vs : List (List ℕ)) (s : Substitution) (place : (n : ℕ) → small n ≡ true → var (position_or_len (λ v. bytes_eq v (variable_text n)) vs) ≡ s n) where
  mutual
    tree_same : (t : Tree) → tree_is_formed t ≡ true → good_tree t ≡ true → tree_of vs (written t) ≡ subst s t
    tree_same (var n) f g = place n g
    tree_same (app y ts) f g =
        let fits = both_true (is_function_kind y.kind) (nat_eq (count_of ts) y.arity && trees_are_formed ts) f in
        let parts = both_true (nat_eq (count_of ts) y.arity) (trees_are_formed ts) fits.1 in
        let n = both_true (is_readable_name y.name) (good_trees ts) g in
        headed_same y.kind y.name y.arity ts (function_of y.kind fits.0) (eqb-true (count_of ts) y.arity parts.0) parts.1 n.1

    headed_same : (k : Kind) (name : List ℕ) (arity : ℕ) (ts : Trees) → k ≡ Function → count_of ts ≡ arity → trees_are_formed ts ≡ true → good_trees ts ≡ true → tree_of vs (headed name ts) ≡ app (record { kind = k; name = name; arity = arity }) (substs s ts)
    headed_same k name arity tree.none e c f g =
        let other = no_variable (is_lower_word name) in
        rw other (λ i. app (record { kind = sym e i; name = name_is name i; arity = c i }) tree.none)
    headed_same k name arity (tree.more t ts) e c f g =
        let a = both_true (tree_is_formed t) (trees_are_formed ts) f in
        let b = both_true (good_tree t) (good_trees ts) g in
        let many : count (writtens ts) + 1 ≡ arity = ap (λ n. n + 1) (counted ts) ∙ c in
        λ i. app (record { kind = sym e i; name = name_is name i; arity = many i }) (tree.more (tree_same t a.0 b.0 i) (trees_same ts a.1 b.1 i))

    trees_same : (ts : Trees) → trees_are_formed ts ≡ true → good_trees ts ≡ true → trees_of vs (writtens ts) ≡ substs s ts
    trees_same tree.none f g = refl
    trees_same (tree.more t ts) f g =
        let a = both_true (tree_is_formed t) (trees_are_formed ts) f in
        let b = both_true (good_tree t) (good_trees ts) g in
        λ i. tree.more (tree_same t a.0 b.0 i) (trees_same ts a.1 b.1 i)

  predicate_same : (name : List ℕ) (arity : ℕ) (ts : Trees) → count_of ts ≡ arity → trees_are_formed ts ≡ true → good_trees ts ≡ true → predicate_of vs (headed name ts) ≡ app (record { kind = Predicate; name = name; arity = arity }) (substs s ts)
  predicate_same name arity tree.none c f g = λ i. app (record { kind = Predicate; name = name_is name i; arity = c i }) tree.none
  predicate_same name arity (tree.more t ts) c f g =
      let a = both_true (tree_is_formed t) (trees_are_formed ts) f in
      let b = both_true (good_tree t) (good_trees ts) g in
      let many : count (writtens ts) + 1 ≡ arity = ap (λ n. n + 1) (counted ts) ∙ c in
      λ i. app (record { kind = Predicate; name = name_is name i; arity = many i }) (tree.more (tree_same t a.0 b.0 i) (trees_same ts a.1 b.1 i))

  record Fine (l : Signed Tree) (w : Wrote) : Type 0 where
    plain : list_all supported (used_tokens w) ≡ true
    names : variable_names (used_tokens w) ≡ map variable_text (tree_vars l.atom)
    narrow : wrote_wide w ≡ false
    never : is_always w ≡ false
    value : literal_of vs w ≡ subst_literal s l ∷ []

  predicate_fine : (positive : Bool) (name : List ℕ) (arity : ℕ) (ts : Trees) → count_of ts ≡ arity → nat_le arity 1024 ≡ true → trees_are_formed ts ≡ true → trees_are_narrow ts ≡ true → good_trees ts ≡ true
      → Fine (record { positive = positive; atom = app (record { kind = Predicate; name = name; arity = arity }) ts }) (predicate positive (headed name ts))
  predicate_fine positive name arity ts c l f n g =
      let used = cond_no (is_constant_atom (headed name ts)) [] (tokens_of (headed name ts)) (no_constant name ts) in
      record {
        plain = ap (list_all supported) used ∙ headed_supported name ts;
        names = ap variable_names used ∙ headed_names name ts;
        narrow = headed_narrow name arity ts c l f n;
        never = not_always positive name ts;
        value = cond_no (is_constant_atom (headed name ts)) [] _ (no_constant name ts) ∙ (λ i. record { positive = positive; atom = predicate_same name arity ts c f g i } ∷ []);
      }

  equation_fine : (positive : Bool) (t u : Tree) (name : List ℕ) (arity : ℕ) → name ≡ 61 ∷ [] → arity ≡ 2 → tree_is_formed t ≡ true → tree_is_formed u ≡ true → tree_is_narrow t ≡ true → tree_is_narrow u ≡ true → good_tree t ≡ true → good_tree u ≡ true
      → Fine (record { positive = positive; atom = app (record { kind = Equality; name = name; arity = arity }) (tree.more t (tree.more u tree.none)) }) (equal positive (written t) (written u))
  equation_fine positive t u name arity e a ft fu nt nu gt gu = record {
    plain = all_two (tokens_of (written t)) (tokens_of (written u)) (tree_supported t) (tree_supported u);
    names = two_names (tokens_of (written t)) (tokens_of (written u)) (tree_vars t) (tree_vars u ++ []) (tree_names t) (tree_names u ∙ ap (map variable_text) (sym (append-nil (tree_vars u))));
    narrow = or_both _ _ (tree_narrow t ft nt) (tree_narrow u fu nu);
    never = refl;
    value = λ i. record { positive = positive; atom = app (record { kind = Equality; name = sym e i; arity = sym a i }) (tree.more (tree_same t ft gt i) (tree.more (tree_same u fu gu i) tree.none)) } ∷ [];
  }

  sides_fine : (positive : Bool) (name : List ℕ) (arity : ℕ) (ts : Trees) → name ≡ 61 ∷ [] → arity ≡ 2 → trees_are_formed ts ≡ true → trees_are_narrow ts ≡ true → good_sides ts ≡ true
      → Fine (record { positive = positive; atom = app (record { kind = Equality; name = name; arity = arity }) ts }) (from_simple (sides_of positive name ts))
  sides_fine positive name arity (tree.more t (tree.more u tree.none)) e a f n g =
      let f1 = both_true (tree_is_formed t) (tree_is_formed u && true) f in
      let f2 = both_true (tree_is_formed u) true f1.1 in
      let n1 = both_true (tree_is_narrow t) (tree_is_narrow u && true) n in
      let n2 = both_true (tree_is_narrow u) true n1.1 in
      let g1 = both_true (good_tree t) (good_tree u) g in
      common.subst (λ (w : Wrote). Fine (record { positive = positive; atom = app (record { kind = Equality; name = name; arity = arity }) (tree.more t (tree.more u tree.none)) }) w) (sym (from_equation positive t u))
      (equation_fine positive t u name arity e a f1.0 f2.0 n1.0 n2.0 g1.0 g1.1)
  sides_fine positive name arity tree.none e a f n g = absurd cc
  sides_fine positive name arity (tree.more t tree.none) e a f n g = absurd cc
  sides_fine positive name arity (tree.more t (tree.more u (tree.more v ts))) e a f n g = absurd cc

  kind_fine : (positive : Bool) (k : Kind) (name : List ℕ) (arity : ℕ) (ts : Trees) → fits_kind k name arity ≡ true → count_of ts ≡ arity → nat_le arity 1024 ≡ true → trees_are_formed ts ≡ true → trees_are_narrow ts ≡ true → good_by k name ts ≡ true
      → Fine (record { positive = positive; atom = app (record { kind = k; name = name; arity = arity }) ts }) (from_simple (simple_by positive k name ts))
  kind_fine positive Predicate name arity ts e c l f n g =
      let b = both_true (is_readable_name name) (good_trees ts) g in
      common.subst (λ (w : Wrote). Fine (record { positive = positive; atom = app (record { kind = Predicate; name = name; arity = arity }) ts }) w) (sym (from_atom positive name ts))
      (predicate_fine positive name arity ts c l f n b.1)
  kind_fine positive Equality name arity ts e c l f n g =
      let b = both_true (bytes_eq name (61 ∷ [])) (nat_eq arity 2) e in
      sides_fine positive name arity ts ((bytes_decides name (61 ∷ [])).0 b.0) (eqb-true arity 2 b.1) f n g
  kind_fine positive Function name arity ts e c l f n g = absurd cc

  tree_fine : (positive : Bool) (t : Tree) → atom_is_formed t ≡ true → tree_is_narrow t ≡ true → good_atom t ≡ true → Fine (record { positive = positive; atom = t }) (from_simple (simple_tree positive t))
  tree_fine positive (var n) f r g = absurd cc
  tree_fine positive (app y ts) f r g =
      let a = both_true (not (is_function_kind y.kind)) (symbol_is_formed y && (nat_eq (count_of ts) y.arity && trees_are_formed ts)) f in
      let b = both_true (symbol_is_formed y) (nat_eq (count_of ts) y.arity && trees_are_formed ts) a.1 in
      let d = both_true (nat_eq (count_of ts) y.arity) (trees_are_formed ts) b.1 in
      let n = both_true (nat_le y.arity 1024) (trees_are_narrow ts) r in
      kind_fine positive y.kind y.name y.arity ts b.0 (eqb-true (count_of ts) y.arity d.0) n.0 d.1 n.1 g

  record AllFine (c : TreeClause) (ws : List Wrote) : Type 0 where
    plain : list_all supported (flat_map used_tokens ws) ≡ true
    names : variable_names (flat_map used_tokens ws) ≡ map variable_text (clause_vars c)
    narrow : list_any wrote_wide ws ≡ false
    never : list_any is_always ws ≡ false
    value : flat_map (literal_of vs) ws ≡ map (subst_literal s) c

  none_fine : AllFine [] []
  none_fine = record { plain = refl; names = refl; narrow = refl; never = refl; value = refl }

  one_more : (l : Signed Tree) (w : Wrote) (c : TreeClause) (ws : List Wrote) → Fine l w → AllFine c ws → AllFine (l ∷ c) (w ∷ ws)
  one_more l w c ws h k = record {
    plain = all_two (used_tokens w) (flat_map used_tokens ws) h.plain k.plain;
    names = two_names (used_tokens w) (flat_map used_tokens ws) (tree_vars l.atom) (clause_vars c) h.names k.names;
    narrow = or_both (wrote_wide w) (list_any wrote_wide ws) h.narrow k.narrow;
    never = or_both (is_always w) (list_any is_always ws) h.never k.never;
    value = λ i. h.value i ++ k.value i;
  }

  all_fine : (c : TreeClause) → clause_is_formed c ≡ true → list_all (λ l. tree_is_narrow l.atom) c ≡ true → list_all good_literal c ≡ true → AllFine c (from_items (items_of c))
  all_fine [] f n g = none_fine
  all_fine (l ∷ ls) f n g =
      let a = both_true (atom_is_formed l.atom) (clause_is_formed ls) f in
      let b = both_true (tree_is_narrow l.atom) (list_all (λ k. tree_is_narrow k.atom) ls) n in
      let d = both_true (good_literal l) (list_all good_literal ls) g in
      one_more l (from_simple (simple_of l)) ls (from_items (items_of ls)) (tree_fine l.positive l.atom a.0 b.0 d.0) (all_fine ls a.1 b.1 d.1)

-- ---- the whole statement

reads : (ws : List Wrote) (c : TreeClause) (vs : List (List ℕ)) → first_feature (flat_map used_tokens ws) ≡ None → list_any wrote_wide ws ≡ false → distinct bytes_eq (variable_names (flat_map used_tokens ws)) ≡ vs
    → nat_le 10001 (length vs) ≡ false → list_any is_always ws ≡ false → flat_map (literal_of vs) ws ≡ c → read_cnf (lower (codes "a")) (codes "axiom") Axiom ws ≡ Ok (Cnf (codes "a") Axiom false c)
reads ws c vs a b e n al v = rw (a, b, e, n, al, v) refl

few : (n : ℕ) → n ≤ 10000 → nat_le 10001 n ≡ false
few n h = grind (arith, nat_tests)

pub is_good : (c : TreeClause) → CanBeRead c → list_all good_literal c ≡ true
is_good c h = all_good c h.formed h.names (is_small c h.canonical h.variables)

clause_judged : (c : TreeClause) → CanBeRead c → read_cnf (lower (codes "a")) (codes "axiom") Axiom (from_items (items_of c)) ≡ Ok (Cnf (codes "a") Axiom false c)
clause_judged c h =
    let smalls = is_small c h.canonical h.variables in
    let vs = map variable_text (order_of c) in
    let fine = all_fine vs (numbered (order_of c)) (λ n e. ap var (place_is c n smalls e)) c h.formed h.narrow (is_good c h) in
    reads (from_items (items_of c)) c vs
    (none_first (flat_map used_tokens (from_items (items_of c))) fine.plain)
    fine.narrow
    (ap (distinct bytes_eq) fine.names ∙ order_texts c smalls)
    (few (length vs) (omega (arith, length-map (order_of c) variable_text, h.variables)))
    fine.never
    (fine.value ∙ renamed c h.canonical)

pub form_judged : (c : TreeClause) → CanBeRead c → judged (form_of c) ≡ Ok (Cnf (codes "a") Axiom false c)
form_judged [] h = refl
form_judged (l ∷ ls) h = clause_judged (l ∷ ls) h

-- ---- the form fits

sides_fit : (positive : Bool) (name : List ℕ) (ts : Trees) → good_sides ts ≡ true → simple_fits (sides_of positive name ts) ≡ true
sides_fit positive name (tree.more t (tree.more u tree.none)) g = equation_fits positive t u
sides_fit positive name tree.none g = absurd cc
sides_fit positive name (tree.more t tree.none) g = absurd cc
sides_fit positive name (tree.more t (tree.more u (tree.more v ts))) g = absurd cc

kind_fits : (positive : Bool) (k : Kind) (name : List ℕ) (ts : Trees) → good_by k name ts ≡ true → simple_fits (simple_by positive k name ts) ≡ true
kind_fits positive Predicate name ts g = atom_fits positive name ts
kind_fits positive Equality name ts g = sides_fit positive name ts g
kind_fits positive Function name ts g = absurd cc

tree_fits : (positive : Bool) (t : Tree) → good_atom t ≡ true → simple_fits (simple_tree positive t) ≡ true
tree_fits positive (var n) g = absurd cc
tree_fits positive (app y ts) g = kind_fits positive y.kind y.name ts g

pub all_fit : (c : TreeClause) → list_all good_literal c ≡ true → items_fit (items_of c) ≡ true
all_fit [] g = refl
all_fit (l ∷ ls) g =
    let b = both_true (good_literal l) (list_all good_literal ls) g in
    and_both (simple_fits (simple_of l)) (items_fit (items_of ls)) (tree_fits l.positive l.atom b.0) (all_fit ls b.1)

pub fits : (c : TreeClause) → list_all good_literal c ≡ true → form_fits (form_of c) ≡ true
fits [] g = refl
fits (l ∷ ls) g =
    let b = both_true (good_literal l) (list_all good_literal ls) g in
    and_both (simple_fits (simple_of l)) (items_fit (items_of ls) && true) (tree_fits l.positive l.atom b.0) (and_both (items_fit (items_of ls)) true (all_fit ls b.1) refl)
