-- What a form stands for, and the faults of a form.
use Rattle.std.specs.Prelude.{ℕ, ◌+◌, List, [], ◌∷◌, ◌++◌, length, map, Bool, true, false, ◌||◌, ◌&&◌, ◌==◌, nat_le, if◌then◌else◌, Option, Some, None, Result, Ok, Err, drop, codes}
use Rattle.std.specs.List.{list_any, flat_map, position_or_len}
use Rattle.std.specs.Option.{option_map_or}
use Rattle.std.specs.Str.{bytes_eq}
use Rattle.inst_logic.specs.declared.symbol.Kind.TheVariants.{Predicate, Equality, Function}
use Rattle.inst_logic.specs.Tree.{Tree, var, app, Trees}
use Rattle.inst_logic.specs.Tree as tree
use Rattle.inst_logic.specs.declared.signed.Signed.{Signed}
use Rattle.inst_logic.specs.Lists.{distinct}
use Rattle.tptp_read.specs.declared.statement.Role.{Role}
use Rattle.tptp_read.specs.declared.statement.Role.TheVariants.{Axiom, Hypothesis, Definition, Assumption, Lemma, Theorem, Corollary, NegatedConjecture, Plain}
use Rattle.tptp_read.specs.declared.statement.Which.{Which}
use Rattle.tptp_read.specs.declared.statement.Which.TheVariants.{Arity, Variables}
use Rattle.tptp_read.specs.declared.statement.Statement.{Statement}
use Rattle.tptp_read.specs.declared.statement.Statement.TheVariants.{Cnf, Include}
use Rattle.tptp_read.specs.Stream.{Tok}
use Rattle.tptp_read.specs.Lexemes.{is_feature, is_quoted_kind, is_variable_kind, is_dollar_kind}
use Rattle.tptp_read.specs.Grammar.{Written, single, applied, Writtens, none, more, Negated, no_atom, no_equation, in_parens, Simple, atom, equation, unequal, negated, Item, simple, nested, Items, last, or, Form, cnf, whole, selected}
use Rattle.inst_logic.specs.Codes as byte
use Rattle.tptp_read.specs.Limits.{most_arguments, most_variables}

-- why a statement is refused
pub data Fault : Type 0 where
  syntax_fault : Fault
  language : List ℕ → Fault
  feature : List ℕ → Fault
  role_fault : List ℕ → Fault
  limit : Which → Fault

-- the content of a quoted word, from behind its first quote
abbrev pub unquoted : Bool → List ℕ → List ℕ
unquoted escaped [] = []
unquoted true (b ∷ bs) = b ∷ unquoted false bs
unquoted false (b ∷ bs) = if b == byte.quote then [] else (if b == byte.backslash then unquoted true bs else b ∷ unquoted false bs)

abbrev pub name_of : Tok → List ℕ
name_of t = if is_quoted_kind t.kind then unquoted false (drop 1 t.text) else t.text

-- an atom, or an equation, with its sign
pub data Wrote : Type 0 where
  predicate : Bool → Written → Wrote
  equal : Bool → Written → Written → Wrote

abbrev pub from_negated : Negated → Wrote
from_negated (no_atom t) = predicate false t
from_negated (no_equation t u) = equal false t u
from_negated (in_parens n) = from_negated n

abbrev pub from_simple : Simple → Wrote
from_simple (atom t) = predicate true t
from_simple (equation t u) = equal true t u
from_simple (unequal t u) = equal false t u
from_simple (negated n) = from_negated n

abbrev mutual
  pub from_item : Item → List Wrote
  from_item (simple s) = from_simple s ∷ []
  from_item (nested i is) = from_item i ++ from_items is

  pub from_items : Items → List Wrote
  from_items last = []
  from_items (or i is) = from_item i ++ from_items is

-- ---- tokens of a term

abbrev mutual
  pub tokens_of : Written → List Tok
  tokens_of (single t) = t ∷ []
  tokens_of (applied f t ts) = f ∷ (tokens_of t ++ tokens_of_all ts)

  pub tokens_of_all : Writtens → List Tok
  tokens_of_all none = []
  tokens_of_all (more t ts) = tokens_of t ++ tokens_of_all ts

abbrev pub is_truth : List ℕ → Written → Bool
is_truth word (single t) = is_dollar_kind t.kind && bytes_eq t.text word
is_truth word (applied f t ts) = false

abbrev pub is_constant_atom : Written → Bool
is_constant_atom t = is_truth (codes "$true") t || is_truth (codes "$false") t

-- every token but those of `$true` and `$false` in the place of an atom
abbrev pub used_tokens : Wrote → List Tok
used_tokens (predicate sign t) = if is_constant_atom t then [] else tokens_of t
used_tokens (equal sign t u) = tokens_of t ++ tokens_of u

abbrev pub first_feature : List Tok → Option (List ℕ)
first_feature [] = None
first_feature (t ∷ ts) = if is_feature t.kind then Some t.text else first_feature ts

abbrev pub variable_names : List Tok → List (List ℕ)
variable_names [] = []
variable_names (t ∷ ts) = if is_variable_kind t.kind then t.text ∷ variable_names ts else variable_names ts

-- ---- symbols

abbrev pub count : Writtens → ℕ
count none = 0
count (more t ts) = count ts + 1

abbrev mutual
  pub is_wide : Written → Bool
  is_wide (single t) = false
  is_wide (applied f t ts) = nat_le (most_arguments + 1) (count ts + 1) || (is_wide t || are_wide ts)

  pub are_wide : Writtens → Bool
  are_wide none = false
  are_wide (more t ts) = is_wide t || are_wide ts

abbrev pub wrote_wide : Wrote → Bool
wrote_wide (predicate sign t) = is_wide t
wrote_wide (equal sign t u) = is_wide t || is_wide u

-- ---- trees, with the variables numbered by their places in a list

abbrev mutual
  pub tree_of : List (List ℕ) → Written → Tree
  tree_of vs (single t) = if is_variable_kind t.kind then var (position_or_len (λ v. bytes_eq v t.text) vs) else app (record { kind = Function; name = name_of t; arity = 0 }) tree.none
  tree_of vs (applied f t ts) = app (record { kind = Function; name = name_of f; arity = count ts + 1 }) (tree.more (tree_of vs t) (trees_of vs ts))

  pub trees_of : List (List ℕ) → Writtens → Trees
  trees_of vs none = tree.none
  trees_of vs (more t ts) = tree.more (tree_of vs t) (trees_of vs ts)

abbrev pub predicate_of : List (List ℕ) → Written → Tree
predicate_of vs (single t) = app (record { kind = Predicate; name = name_of t; arity = 0 }) tree.none
predicate_of vs (applied f t ts) = app (record { kind = Predicate; name = name_of f; arity = count ts + 1 }) (tree.more (tree_of vs t) (trees_of vs ts))

abbrev pub literal_of : List (List ℕ) → Wrote → List (Signed Tree)
literal_of vs (predicate sign t) = if is_constant_atom t then [] else record { positive = sign; atom = predicate_of vs t } ∷ []
literal_of vs (equal sign t u) = record { positive = sign; atom = app (record { kind = Equality; name = byte.equals_sign ∷ []; arity = 2 }) (tree.more (tree_of vs t) (tree.more (tree_of vs u) tree.none)) } ∷ []

-- a literal that is true as it stands
abbrev pub is_always : Wrote → Bool
is_always (predicate true t) = is_truth (codes "$true") t
is_always (predicate false t) = is_truth (codes "$false") t
is_always (equal sign t u) = false

abbrev pub role_of : List ℕ → Option Role
role_of w =
    if bytes_eq w (codes "axiom") then Some Axiom
    else (if bytes_eq w (codes "hypothesis") then Some Hypothesis
    else (if bytes_eq w (codes "definition") then Some Definition
    else (if bytes_eq w (codes "assumption") then Some Assumption
    else (if bytes_eq w (codes "lemma") then Some Lemma
    else (if bytes_eq w (codes "theorem") then Some Theorem
    else (if bytes_eq w (codes "corollary") then Some Corollary
    else (if bytes_eq w (codes "negated_conjecture") then Some NegatedConjecture
    else (if bytes_eq w (codes "plain") then Some Plain
    else None))))))))

-- the statement, or the first of its faults: the role, a feature, the arity, the variables
abbrev pub read_cnf : Tok → List ℕ → Role → List Wrote → Result Statement Fault
read_cnf name word role ws =
    let used = flat_map used_tokens ws in
    let vs = distinct bytes_eq (variable_names used) in
    option_map_or (λ w. Err (feature w))
    (first_feature used)
    (if list_any wrote_wide ws then Err (limit Arity)
    else (if nat_le (most_variables + 1) (length vs) then Err (limit Variables)
    else Ok (Cnf (name_of name) role (list_any is_always ws) (flat_map (literal_of vs) ws))))

abbrev pub judged : Form → Result Statement Fault
judged (cnf name role i is n) = option_map_or (λ r. read_cnf name role.text r (from_item i ++ from_items is)) (role_of role.text) (Err (role_fault role.text))
judged (whole file) = Ok (Include (name_of file) None)
judged (selected file n ns) = Ok (Include (name_of file) (Some (name_of n ∷ map name_of ns)))
