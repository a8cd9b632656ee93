-- What the form of a printed clause stands for: the clause.
use Rattle.std.proofs.Common.{◌≡◌, ℕ, ◌+◌, Bool, true, false, cond, List, [], ◌∷◌, ◌++◌, map, Some, None, refl, sym, ap, ◌∙◌, arith, eqb-true}
use Rattle.std.specs.Prelude.{◌&&◌, ◌||◌, not, nat_eq, nat_le}
use Rattle.std.specs.List.{list_all}
use Rattle.std.specs.Str.{bytes_eq}
use Rattle.std.proofs.lemmas.Bool.Decides.{nat_tests}
use Rattle.std.proofs.lemmas.List.{map-append}
use Rattle.std.proofs.lemmas.List.Folds.{list_all-append}
use Rattle.inst_logic.specs.declared.symbol.Kind.{Kind}
use Rattle.inst_logic.specs.declared.symbol.Kind.TheVariants.{Predicate, Equality, Function}
use Rattle.inst_logic.specs.Tree.{Tree, var, app, Trees}
use Rattle.inst_logic.specs.Tree as tree
use Rattle.inst_logic.specs.Substitution.{tree_vars, trees_vars}
use Rattle.inst_logic.specs.Clauses.{TreeClause}
use Rattle.inst_logic.specs.WellFormed.{count_of, fits_kind, is_function_kind, symbol_is_formed, tree_is_formed, trees_are_formed, atom_is_formed, clause_is_formed}
use Rattle.inst_logic.specs.Printing.{is_lower_word, is_readable_name, escaped_all}
use Rattle.tptp_read.specs.Stream.{Tok}
use Rattle.tptp_read.specs.Lexemes.{is_head, is_plain, is_feature, is_variable_kind, is_dollar_kind}
use Rattle.tptp_read.specs.Grammar.{term_fits, terms_fit, simple_fits, is_atom}
use Rattle.tptp_read.specs.Meaning.{name_of, predicate, equal, from_simple, tokens_of, tokens_of_all, first_feature, variable_names, count, is_wide, are_wide}
use Rattle.tptp_read.specs.Names.{kind_is_readable, tree_is_readable, trees_are_readable, clause_is_readable}
use Rattle.tptp_read.proofs.NameSets.{names_append}
use Rattle.tptp_write.specs.Again.{tree_is_narrow, trees_are_narrow}
use Rattle.tptp_write.proofs.Written.{variable_text, name_kind, name_tok, written, headed, writtens, atom_of, equation_of, good_tree, good_trees, good_sides, good_by, good_atom, good_literal}
use Rattle.tptp_write.proofs.Tokens.{both_true, and_both, content}
use Rattle.tptp_write.proofs.Named.{small_tree, small_trees, small_literal}
use Rattle.inst_logic.proofs.Formed.{function_name}

-- ---- kinds of name tokens

head_kind : (e : Bool) → is_head (name_kind e) ≡ true
head_kind true = refl
head_kind false = refl

plain_kind : (e : Bool) → is_plain (name_kind e) ≡ true
plain_kind true = refl
plain_kind false = refl

no_feature : (e : Bool) → is_feature (name_kind e) ≡ false
no_feature true = refl
no_feature false = refl

pub no_variable : (e : Bool) → is_variable_kind (name_kind e) ≡ false
no_variable true = refl
no_variable false = refl

pub no_dollar : (e : Bool) → is_dollar_kind (name_kind e) ≡ false
no_dollar true = refl
no_dollar false = refl

name_by : (n : List ℕ) (e : Bool) → name_of (record { kind = name_kind e; text = cond e n (39 ∷ escaped_all n ++ 39 ∷ []) }) ≡ n
name_by n true = refl
name_by n false = content n

pub name_is : (n : List ℕ) → name_of (name_tok n) ≡ n
name_is n = name_by n (is_lower_word n)

-- ---- the form fits

mutual
  tree_fits : (t : Tree) → term_fits (written t) ≡ true
  tree_fits (var n) = refl
  tree_fits (app s ts) = headed_fits s.name ts

  headed_fits : (name : List ℕ) (ts : Trees) → term_fits (headed name ts) ≡ true
  headed_fits name tree.none = plain_kind (is_lower_word name)
  headed_fits name (tree.more t ts) = and_both (is_head (name_kind (is_lower_word name))) (term_fits (written t) && terms_fit (writtens ts)) (head_kind (is_lower_word name)) (and_both (term_fits (written t)) (terms_fit (writtens ts)) (tree_fits t) (trees_fit ts))

  trees_fit : (ts : Trees) → terms_fit (writtens ts) ≡ true
  trees_fit tree.none = refl
  trees_fit (tree.more t ts) = and_both (term_fits (written t)) (terms_fit (writtens ts)) (tree_fits t) (trees_fit ts)

headed_atom : (name : List ℕ) (ts : Trees) → is_atom (headed name ts) ≡ true
headed_atom name tree.none = head_kind (is_lower_word name)
headed_atom name (tree.more t ts) = refl

pub atom_fits : (positive : Bool) (name : List ℕ) (ts : Trees) → simple_fits (atom_of positive (headed name ts)) ≡ true
atom_fits true name ts = and_both (is_atom (headed name ts)) (term_fits (headed name ts)) (headed_atom name ts) (headed_fits name ts)
atom_fits false name ts = and_both (is_atom (headed name ts)) (term_fits (headed name ts)) (headed_atom name ts) (headed_fits name ts)

pub equation_fits : (positive : Bool) (t u : Tree) → simple_fits (equation_of positive (written t) (written u)) ≡ true
equation_fits true t u = and_both (term_fits (written t)) (term_fits (written u)) (tree_fits t) (tree_fits u)
equation_fits false t u = and_both (term_fits (written t)) (term_fits (written u)) (tree_fits t) (tree_fits u)

pub from_atom : (positive : Bool) (name : List ℕ) (ts : Trees) → from_simple (atom_of positive (headed name ts)) ≡ predicate positive (headed name ts)
from_atom true name ts = refl
from_atom false name ts = refl

pub from_equation : (positive : Bool) (t u : Tree) → from_simple (equation_of positive (written t) (written u)) ≡ equal positive (written t) (written u)
from_equation true t u = refl
from_equation false t u = refl

-- ---- tokens

abbrev pub supported : Tok → Bool
supported t = not (is_feature t.kind)

name_supported : (n : List ℕ) → supported (name_tok n) ≡ true
name_supported n = ap not (no_feature (is_lower_word n))

pub all_two : (xs ys : List Tok) → list_all supported xs ≡ true → list_all supported ys ≡ true → list_all supported (xs ++ ys) ≡ true
all_two xs ys h k = list_all-append supported xs ys ∙ and_both (list_all supported xs) (list_all supported ys) h k

mutual
  pub tree_supported : (t : Tree) → list_all supported (tokens_of (written t)) ≡ true
  tree_supported (var n) = refl
  tree_supported (app s ts) = headed_supported s.name ts

  pub headed_supported : (name : List ℕ) (ts : Trees) → list_all supported (tokens_of (headed name ts)) ≡ true
  headed_supported name tree.none = and_both (supported (name_tok name)) true (name_supported name) refl
  headed_supported name (tree.more t ts) =
      and_both (supported (name_tok name)) (list_all supported (tokens_of (written t) ++ tokens_of_all (writtens ts))) (name_supported name)
      (all_two (tokens_of (written t)) (tokens_of_all (writtens ts)) (tree_supported t) (trees_supported ts))

  trees_supported : (ts : Trees) → list_all supported (tokens_of_all (writtens ts)) ≡ true
  trees_supported tree.none = refl
  trees_supported (tree.more t ts) = all_two (tokens_of (written t)) (tokens_of_all (writtens ts)) (tree_supported t) (trees_supported ts)

pub none_first : (ts : List Tok) → list_all supported ts ≡ true → first_feature ts ≡ None
none_first [] h = refl
none_first (t ∷ ts) h =
    let both = both_true (supported t) (list_all supported ts) h in
    by (is_feature t.kind) both.0 (none_first ts both.1)
  where
    by : (b : Bool) → not b ≡ true → first_feature ts ≡ None → cond b (Some t.text) (first_feature ts) ≡ None
    by true e k = absurd cc
    by false e k = k

-- ---- variables

name_skipped : (n : List ℕ) (ts : List Tok) → variable_names (name_tok n ∷ ts) ≡ variable_names ts
name_skipped n ts = let no = no_variable (is_lower_word n) in rw no refl

pub two_names : (xs ys : List Tok) (a b : List ℕ) → variable_names xs ≡ map variable_text a → variable_names ys ≡ map variable_text b → variable_names (xs ++ ys) ≡ map variable_text (a ++ b)
two_names xs ys a b h k = names_append xs ys ∙ ((λ i. h i ++ k i) ∙ sym (map-append variable_text a b))

mutual
  pub tree_names : (t : Tree) → variable_names (tokens_of (written t)) ≡ map variable_text (tree_vars t)
  tree_names (var n) = refl
  tree_names (app s ts) = headed_names s.name ts

  pub headed_names : (name : List ℕ) (ts : Trees) → variable_names (tokens_of (headed name ts)) ≡ map variable_text (trees_vars ts)
  headed_names name tree.none = name_skipped name []
  headed_names name (tree.more t ts) =
      name_skipped name (tokens_of (written t) ++ tokens_of_all (writtens ts))
      ∙ two_names (tokens_of (written t)) (tokens_of_all (writtens ts)) (tree_vars t) (trees_vars ts) (tree_names t) (trees_names ts)

  trees_names : (ts : Trees) → variable_names (tokens_of_all (writtens ts)) ≡ map variable_text (trees_vars ts)
  trees_names tree.none = refl
  trees_names (tree.more t ts) = two_names (tokens_of (written t)) (tokens_of_all (writtens ts)) (tree_vars t) (trees_vars ts) (tree_names t) (trees_names ts)

-- ---- widths

pub counted : (ts : Trees) → count (writtens ts) ≡ count_of ts
counted tree.none = refl
counted (tree.more t ts) = ap (λ n. n + 1) (counted ts)

arity_is : (n m : ℕ) → nat_eq n m ≡ true → n ≡ m
arity_is n m e = eqb-true n m e

pub or_both : (a b : Bool) → a ≡ false → b ≡ false → (a || b) ≡ false
or_both a b e h = rw (e, h) refl

few : (n arity : ℕ) → n ≡ arity → nat_le arity 1024 ≡ true → nat_le 1025 n ≡ false
few n arity e h = grind (arith, nat_tests)

-- a symbol with as many arguments as its arity, which is not above the limit
mutual
  pub tree_narrow : (t : Tree) → tree_is_formed t ≡ true → tree_is_narrow t ≡ true → is_wide (written t) ≡ false
  tree_narrow (var n) f h = refl
  tree_narrow (app s ts) f h =
      let fits = both_true (is_function_kind s.kind) (nat_eq (count_of ts) s.arity && trees_are_formed ts) f in
      let parts = both_true (nat_eq (count_of ts) s.arity) (trees_are_formed ts) fits.1 in
      let n = both_true (nat_le s.arity 1024) (trees_are_narrow ts) h in
      headed_narrow s.name s.arity ts (arity_is (count_of ts) s.arity parts.0) n.0 parts.1 n.1

  pub headed_narrow : (name : List ℕ) (arity : ℕ) (ts : Trees) → count_of ts ≡ arity → nat_le arity 1024 ≡ true → trees_are_formed ts ≡ true → trees_are_narrow ts ≡ true → is_wide (headed name ts) ≡ false
  headed_narrow name arity tree.none c l f h = refl
  headed_narrow name arity (tree.more t ts) c l f h =
      let g = both_true (tree_is_formed t) (trees_are_formed ts) f in
      let n = both_true (tree_is_narrow t) (trees_are_narrow ts) h in
      or_both (nat_le 1025 (count (writtens ts) + 1)) (is_wide (written t) || are_wide (writtens ts))
      (few (count (writtens ts) + 1) arity (ap (λ k. k + 1) (counted ts) ∙ c) l)
      (or_both (is_wide (written t)) (are_wide (writtens ts)) (tree_narrow t g.0 n.0) (trees_narrow ts g.1 n.1))

  trees_narrow : (ts : Trees) → trees_are_formed ts ≡ true → trees_are_narrow ts ≡ true → are_wide (writtens ts) ≡ false
  trees_narrow tree.none f h = refl
  trees_narrow (tree.more t ts) f h =
      let g = both_true (tree_is_formed t) (trees_are_formed ts) f in
      let n = both_true (tree_is_narrow t) (trees_are_narrow ts) h in
      or_both (is_wide (written t)) (are_wide (writtens ts)) (tree_narrow t g.0 n.0) (trees_narrow ts g.1 n.1)

-- ---- good trees

mutual
  tree_good : (t : Tree) → tree_is_formed t ≡ true → tree_is_readable t ≡ true → small_tree t ≡ true → good_tree t ≡ true
  tree_good (var n) f r s = s
  tree_good (app y ts) f r s =
      let fits = both_true (is_function_kind y.kind) (nat_eq (count_of ts) y.arity && trees_are_formed ts) f in
      let parts = both_true (nat_eq (count_of ts) y.arity) (trees_are_formed ts) fits.1 in
      let n = both_true (kind_is_readable y.kind y.name) (trees_are_readable ts) r in
      and_both (is_readable_name y.name) (good_trees ts) (function_name y.kind y.name fits.0 n.0) (trees_good ts parts.1 n.1 s)

  trees_good : (ts : Trees) → trees_are_formed ts ≡ true → trees_are_readable ts ≡ true → small_trees ts ≡ true → good_trees ts ≡ true
  trees_good tree.none f r s = refl
  trees_good (tree.more t ts) f r s =
      let g = both_true (tree_is_formed t) (trees_are_formed ts) f in
      let n = both_true (tree_is_readable t) (trees_are_readable ts) r in
      let m = both_true (small_tree t) (small_trees ts) s in
      and_both (good_tree t) (good_trees ts) (tree_good t g.0 n.0 m.0) (trees_good ts g.1 n.1 m.1)

sides_good : (ts : Trees) → nat_eq (count_of ts) 2 ≡ true → good_trees ts ≡ true → good_sides ts ≡ true
sides_good tree.none e g = absurd cc
sides_good (tree.more t tree.none) e g = absurd cc
sides_good (tree.more t (tree.more u tree.none)) e g =
    let a = both_true (good_tree t) (good_tree u && true) g in
    let b = both_true (good_tree u) true a.1 in
    and_both (good_tree t) (good_tree u) a.0 b.0
sides_good (tree.more t (tree.more u (tree.more v ts))) e g = absurd (let n = eqb-true (count_of ts + 1 + 1 + 1) 2 e in omega (arith, n))

two_arguments : (n arity : ℕ) → nat_eq n arity ≡ true → nat_eq arity 2 ≡ true → nat_eq n 2 ≡ true
two_arguments n arity e h = grind (arith, nat_tests)

kind_good : (k : Kind) (name : List ℕ) (arity : ℕ) (ts : Trees) → not (is_function_kind k) ≡ true → fits_kind k name arity ≡ true → nat_eq (count_of ts) arity ≡ true → kind_is_readable k name ≡ true → good_trees ts ≡ true → good_by k name ts ≡ true
kind_good Predicate name arity ts other f c r g = and_both (is_readable_name name) (good_trees ts) r g
kind_good Equality name arity ts other f c r g =
    let two = both_true (bytes_eq name (61 ∷ [])) (nat_eq arity 2) f in
    sides_good ts (two_arguments (count_of ts) arity c two.1) g
kind_good Function name arity ts other f c r g = absurd cc

atom_good : (t : Tree) → atom_is_formed t ≡ true → tree_is_readable t ≡ true → small_tree t ≡ true → good_atom t ≡ true
atom_good (var n) f r s = absurd cc
atom_good (app y ts) f r s =
    let a = both_true (not (is_function_kind y.kind)) (symbol_is_formed y && (nat_eq (count_of ts) y.arity && trees_are_formed ts)) f in
    let b = both_true (symbol_is_formed y) (nat_eq (count_of ts) y.arity && trees_are_formed ts) a.1 in
    let d = both_true (nat_eq (count_of ts) y.arity) (trees_are_formed ts) b.1 in
    let n = both_true (kind_is_readable y.kind y.name) (trees_are_readable ts) r in
    kind_good y.kind y.name y.arity ts a.0 b.0 d.0 n.0 (trees_good ts d.1 n.1 s)

pub all_good : (c : TreeClause) → clause_is_formed c ≡ true → clause_is_readable c ≡ true → list_all small_literal c ≡ true → list_all good_literal c ≡ true
all_good [] f r s = refl
all_good (l ∷ ls) f r s =
    let a = both_true (atom_is_formed l.atom) (clause_is_formed ls) f in
    let b = both_true (tree_is_readable l.atom) (clause_is_readable ls) r in
    let d = both_true (small_tree l.atom) (list_all small_literal ls) s in
    and_both (good_literal l) (list_all good_literal ls) (atom_good l.atom a.0 b.0 d.0) (all_good ls a.1 b.1 d.1)
