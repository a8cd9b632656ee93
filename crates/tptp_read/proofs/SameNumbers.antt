-- A variable has its number also where more names follow.
use Rattle.std.proofs.Common.{◌≡◌, ℕ, ◌+◌, Bool, true, false, cond, List, [], ◌∷◌, ◌++◌, refl, sym, ap, subst, ◌∙◌, fold}
use Rattle.std.specs.Prelude.{◌||◌, not, filter}
use Rattle.std.specs.List.{list_any, flat_map, position_or_len}
use Rattle.std.specs.Str.{bytes_eq}
use Rattle.std.specs.Cmp.Lexicographic.{bytes_decides}
use Rattle.inst_logic.specs.declared.symbol.Kind.TheVariants.{Predicate, Equality, Function}
use Rattle.inst_logic.specs.Tree.{Tree, var, app, Trees}
use Rattle.inst_logic.specs.Tree as logic
use Rattle.inst_logic.specs.declared.signed.Signed.{Signed}
use Rattle.inst_logic.specs.Lists.{distinct, with_item}
use Rattle.inst_logic.proofs.Distinct.{any_kept, distinct_append}
use Rattle.tptp_read.specs.Stream.{Tok}
use Rattle.tptp_read.specs.Lexemes.{is_variable_kind}
use Rattle.tptp_read.specs.Grammar.{Written, single, applied, Writtens, none, more}
use Rattle.tptp_read.specs.Meaning.{Wrote, predicate, equal, tree_of, trees_of, predicate_of, literal_of, count, name_of, is_constant_atom, tokens_of, tokens_of_all, used_tokens, variable_names}
use Rattle.tptp_read.proofs.NameSets.{names_append}

abbrev pub place : List ℕ → List (List ℕ) → ℕ
place v vs = position_or_len (λ x. bytes_eq x v) vs

abbrev pub has : List ℕ → List (List ℕ) → Bool
has v vs = list_any (λ x. bytes_eq x v) vs

abbrev alone : Bool → Tree → List (Signed Tree)
alone sign t = record { positive = sign; atom = t } ∷ []

-- the two lists give the names the same places
module _ (vs us : List (List ℕ)) where
  abbrev pub Agree : List (List ℕ) → Type 0
  Agree [] = Unit {0}
  Agree (v ∷ names) = (place v vs ≡ place v us) × Agree names

  pub agree_append : (a b : List (List ℕ)) → Agree (a ++ b) → Agree a × Agree b
  agree_append [] b h = (tt, h)
  agree_append (v ∷ a) b h = let r = agree_append a b h.1 in ((h.0, r.0), r.1)

  agree_tail : (v : List ℕ) (names : List (List ℕ)) (b : Bool) → Agree (cond b (v ∷ names) names) → Agree names
  agree_tail v names true h = h.1
  agree_tail v names false h = h

  single_same : (v : List ℕ) (other : Tree) (b : Bool) → Agree (cond b (v ∷ []) []) → cond b (var (place v vs)) other ≡ cond b (var (place v us)) other
  single_same v other true h = ap var h.0
  single_same v other false h = refl

  agree_split : (xs ys : List Tok) → Agree (variable_names (xs ++ ys)) → Agree (variable_names xs) × Agree (variable_names ys)
  agree_split xs ys h = agree_append (variable_names xs) (variable_names ys) (subst Agree (names_append xs ys) h)

  mutual
    pub tree_same : (w : Written) → Agree (variable_names (tokens_of w)) → tree_of vs w ≡ tree_of us w
    tree_same (single t) h = single_same t.text (app (record { kind = Function; name = name_of t; arity = 0 }) logic.none) (is_variable_kind t.kind) h
    tree_same (applied f t ts) h =
        let inner = agree_tail f.text (variable_names (tokens_of t ++ tokens_of_all ts)) (is_variable_kind f.kind) h in
        let both = agree_split (tokens_of t) (tokens_of_all ts) inner in
        λ i. app (record { kind = Function; name = name_of f; arity = count ts + 1 }) (logic.more (tree_same t both.0 i) (trees_same ts both.1 i))

    pub trees_same : (ts : Writtens) → Agree (variable_names (tokens_of_all ts)) → trees_of vs ts ≡ trees_of us ts
    trees_same none h = refl
    trees_same (more t ts) h = let both = agree_split (tokens_of t) (tokens_of_all ts) h in λ i. logic.more (tree_same t both.0 i) (trees_same ts both.1 i)

  predicate_same : (w : Written) → Agree (variable_names (tokens_of w)) → predicate_of vs w ≡ predicate_of us w
  predicate_same (single t) h = refl
  predicate_same (applied f t ts) h =
      let inner = agree_tail f.text (variable_names (tokens_of t ++ tokens_of_all ts)) (is_variable_kind f.kind) h in
      let both = agree_split (tokens_of t) (tokens_of_all ts) inner in
      λ i. app (record { kind = Predicate; name = name_of f; arity = count ts + 1 }) (logic.more (tree_same t both.0 i) (trees_same ts both.1 i))

  atom_same : (sign : Bool) (t : Written) (b : Bool) → Agree (variable_names (cond b [] (tokens_of t))) → cond b [] (alone sign (predicate_of vs t)) ≡ cond b [] (alone sign (predicate_of us t))
  atom_same sign t true h = refl
  atom_same sign t false h = ap (alone sign) (predicate_same t h)

  pub literal_same : (w : Wrote) → Agree (variable_names (used_tokens w)) → literal_of vs w ≡ literal_of us w
  literal_same (predicate sign t) h = atom_same sign t (is_constant_atom t) h
  literal_same (equal sign t u) h =
      let both = agree_split (tokens_of t) (tokens_of u) h in
      λ i. record { positive = sign; atom = app (record { kind = Equality; name = 61 ∷ []; arity = 2 }) (logic.more (tree_same t both.0 i) (logic.more (tree_same u both.1 i) logic.none)) } ∷ []

  pub literals_same : (ws : List Wrote) → Agree (variable_names (flat_map used_tokens ws)) → flat_map (literal_of vs) ws ≡ flat_map (literal_of us) ws
  literals_same [] h = refl
  literals_same (w ∷ ws) h = let both = agree_split (used_tokens w) (flat_map used_tokens ws) h in λ i. literal_same w both.0 i ++ literals_same ws both.1 i

  or_true : (b : Bool) → (b || true) ≡ true
  or_true true = refl
  or_true false = refl

  pub agree_all : (names : List (List ℕ)) → ((v : List ℕ) → has v names ≡ true → place v vs ≡ place v us) → Agree names
  agree_all [] h = tt
  agree_all (v ∷ names) h =
      let same : bytes_eq v v ≡ true = (bytes_decides v v).1 refl in
      (h v (rw same refl), agree_all names (λ x e. h x (rw e (or_true (bytes_eq v x)))))

-- ---- more names behind

past : (v x : List ℕ) (d e : List (List ℕ)) (b : Bool) → bytes_eq x v ≡ b → (has v d ≡ true → place v (d ++ e) ≡ place v d) → (b || has v d) ≡ true → place v (x ∷ d ++ e) ≡ place v (x ∷ d)
past v x d e true is h any = rw is refl
past v x d e false is h any = rw is (ap (λ n. 1 + n) (h any))

pub place_append : (v : List ℕ) (d e : List (List ℕ)) → has v d ≡ true → place v (d ++ e) ≡ place v d
place_append v [] e any = absurd cc
place_append v (x ∷ d) e any = past v x d e (bytes_eq x v) refl (place_append v d e) any

has_append : (v : List ℕ) (d e : List (List ℕ)) → has v d ≡ true → has v (d ++ e) ≡ true
has_append v [] e any = absurd cc
has_append v (x ∷ d) e any = by (bytes_eq x v) (has_append v d e) any
  where
    by : (b : Bool) → (has v d ≡ true → has v (d ++ e) ≡ true) → (b || has v d) ≡ true → (b || has v (d ++ e)) ≡ true
    by true h f = refl
    by false h f = h f

with_same : (v : List ℕ) (d : List (List ℕ)) (y : List ℕ) (b : Bool) → has v d ≡ true → (place v (cond b d (d ++ y ∷ [])) ≡ place v d) × (has v (cond b d (d ++ y ∷ [])) ≡ true)
with_same v d y true any = (refl, any)
with_same v d y false any = (place_append v d (y ∷ []) any, has_append v d (y ∷ []) any)

fold_same : (v : List ℕ) (d ys : List (List ℕ)) → has v d ≡ true → place v (fold (with_item bytes_eq) d ys) ≡ place v d
fold_same v d [] any = refl
fold_same v d (y ∷ ys) any = let w = with_same v d y (list_any (λ x. bytes_eq x y) d) any in fold_same v (with_item bytes_eq d y) ys w.1 ∙ w.0

distinct_step : (v x : List ℕ) (xs d : List (List ℕ)) (b : Bool) → bytes_eq x v ≡ b → has v d ≡ has v xs → (b || list_any (λ z. bytes_eq z v) (filter (λ y. not (bytes_eq x y)) d)) ≡ (b || has v xs)
distinct_step v x xs d true e h = refl
distinct_step v x xs d false e h = any_kept bytes_eq bytes_decides x v d e ∙ h

has_distinct : (v : List ℕ) (xs : List (List ℕ)) → has v (distinct bytes_eq xs) ≡ has v xs
has_distinct v [] = refl
has_distinct v (x ∷ xs) = distinct_step v x xs (distinct bytes_eq xs) (bytes_eq x v) refl (has_distinct v xs)

pub numbers_same : (xs ys : List (List ℕ)) → Agree (distinct bytes_eq (xs ++ ys)) (distinct bytes_eq xs) xs
numbers_same xs ys = agree_all (distinct bytes_eq (xs ++ ys)) (distinct bytes_eq xs) xs
    (λ v any. ap (place v) (sym (distinct_append bytes_eq bytes_decides xs ys)) ∙ fold_same v (distinct bytes_eq xs) ys (has_distinct v xs ∙ any))
