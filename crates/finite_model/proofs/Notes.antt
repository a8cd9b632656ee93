-- The walk over a clause finds its parts, and the variables that stand for them.
use Rattle.std.proofs.Common.{◌≡◌, ◌+◌, inl, inr, List, [], ◌∷◌, ◌++◌, refl, sym, ap, ap₂, ◌∙◌, subst as transport, map, fold, length, length-append, Bool, true, false, cond, not, Decides, arith, append_assoc, get_or}
use Rattle.std.specs.Prelude.{◌||◌}
use Rattle.std.specs.List.{position_or_len, list_any, flat_map}
use Rattle.std.proofs.lemmas.List.{map-append}
use Rattle.std.proofs.lemmas.List.Sums.{fold-append}
use Rattle.inst_logic.specs.declared.symbol.Sym.{Sym}
use Rattle.inst_logic.specs.declared.signed.Signed.{Signed}
use Rattle.inst_logic.specs.Tree.{Tree, var, app, Trees, none, more, of_list, to_list}
use Rattle.inst_logic.specs.Lists.{with_item}
use Rattle.inst_logic.specs.Equal.{tree_eq}
use Rattle.inst_logic.specs.Clauses.{TreeClause}
use Rattle.inst_logic.proofs.Applications.{same_list, same_trees}
use Rattle.inst_logic.proofs.Distinct.{distinct_append}
use Rattle.inst_logic.proofs.SameLemmas.{tree_eq_decides}
use Rattle.inst_logic.proofs.Membership.{◌∈◌, in_left, in_right, in_push, any_from, any_true, any_false, map_agree}
use Rattle.inst_calculus.proofs.Distinct.{IsDistinct}
use Rattle.inst_calculus.proofs.MadeLists.{item_at_position}
use Rattle.inst_calculus.proofs.Trees.{app_symbol, app_trees}
use Rattle.finite_model.specs.Flattening.{Numbers, parts, parts_of_each, atom_parts, clause_parts, stands_for, value_denial, flat_atom, flat_literal, flat_clause, applied, function_predicate, predicate_for}
use Rattle.finite_model.specs.Placing.{placed_name, placed_names, placed, placed_each, placed_atom, placed_clause, placed_flat, placed_literals, note_denial, note_denials}
use Rattle.finite_model.proofs.Parts.{part_of_itself, argument_is_part}

-- Places

module _ {A : Type 0} where
  place_agree : (p q : A → Bool) (xs : List A) → ((x : A) → x ∈ xs → p x ≡ q x) → position_or_len p xs ≡ position_or_len q xs
  place_agree p q [] h = refl
  place_agree p q (x ∷ xs) h = λ i. cond (not (h x (inl refl) i)) (1 + place_agree p q xs (λ y j. h y (inr j)) i) 0

  any_agree : (p q : A → Bool) (xs : List A) → ((x : A) → x ∈ xs → p x ≡ q x) → list_any p xs ≡ list_any q xs
  any_agree p q [] h = refl
  any_agree p q (x ∷ xs) h = λ i. h x (inl refl) i || any_agree p q xs (λ y j. h y (inr j)) i

  pub place_of_map : {B : Type 0} (p : B → Bool) (f : A → B) (xs : List A) → position_or_len p (map f xs) ≡ position_or_len (λ x. p (f x)) xs
  place_of_map p f [] = refl
  place_of_map p f (x ∷ xs) = λ i. cond (not (p (f x))) (1 + place_of_map p f xs i) 0

  any_of_map : {B : Type 0} (p : B → Bool) (f : A → B) (xs : List A) → list_any p (map f xs) ≡ list_any (λ x. p (f x)) xs
  any_of_map p f [] = refl
  any_of_map p f (x ∷ xs) = λ i. p (f x) || any_of_map p f xs i

  -- what is found among the first items is found there with more
  place_in_more : (p : A → Bool) (x : A) (xs ys : List A) → x ∈ xs → p x ≡ true → position_or_len p (xs ++ ys) ≡ position_or_len p xs
  place_in_more p x [] ys i e = absurd i
  place_in_more p x (z ∷ zs) ys (inl q) e = rw (ap p (sym q) ∙ e) refl
  place_in_more p x (z ∷ zs) ys (inr i) e = λ j. cond (not (p z)) (1 + place_in_more p x zs ys i e j) 0

  place_at_end : (p : A → Bool) (x : A) (xs ys : List A) → ((y : A) → y ∈ xs → p y ≡ false) → p x ≡ true → position_or_len p (xs ++ x ∷ ys) ≡ length xs
  place_at_end p x [] ys h e = rw e refl
  place_at_end p x (z ∷ zs) ys h e = rw (h z (inl refl)) (let rest : position_or_len p (zs ++ x ∷ ys) ≡ length zs = place_at_end p x zs ys (λ y i. h y (inr i)) e in omega arith)

  place_absent : (p : A → Bool) (xs : List A) → ((x : A) → x ∈ xs → p x ≡ false) → position_or_len p xs ≡ length xs
  place_absent p [] h = refl
  place_absent p (x ∷ xs) h = rw (h x (inl refl)) (let rest : position_or_len p xs ≡ length xs = place_absent p xs (λ y i. h y (inr i)) in omega arith)

is_false : (b : Bool) → ¬ (b ≡ true) → b ≡ false
is_false true n = absurd (n refl)
is_false false n = refl

same_test : {P Q : Type 0} (b c : Bool) → Decides b P → Decides c Q → (P → Q) → (Q → P) → b ≡ c
same_test true true d e f g = refl
same_test true false d e f g = sym (e.1 (f (d.0 refl)))
same_test false true d e f g = d.1 (g (e.0 refl))
same_test false false d e f g = refl

itself : (t : Tree) → tree_eq t t ≡ true
itself t = (tree_eq_decides t t).1 refl

-- a variable that stands for an item stays with more items
stands_in_more : (ps qs : List Tree) (t : Tree) → t ∈ ps → stands_for (ps ++ qs) t ≡ stands_for ps t
stands_in_more ps qs t i = ap var (place_in_more (λ u. tree_eq u t) t ps qs i (itself t))

stands_with : (ps : List Tree) (x t : Tree) → t ∈ ps → stands_for (with_item tree_eq ps x) t ≡ stands_for ps t
stands_with ps x t i = go (list_any (λ u. tree_eq u x) ps)
  where
    go : (b : Bool) → stands_for (cond b ps (ps ++ x ∷ [])) t ≡ stands_for ps t
    go true = refl
    go false = stands_in_more ps (x ∷ []) t i

in_with : (ps : List Tree) (x t : Tree) → t ∈ ps → t ∈ with_item tree_eq ps x
in_with ps x t i = go (list_any (λ u. tree_eq u x) ps)
  where
    go : (b : Bool) → t ∈ cond b ps (ps ++ x ∷ [])
    go true = i
    go false = in_left t ps (x ∷ []) i

item_in_with : (ps : List Tree) (x : Tree) → x ∈ with_item tree_eq ps x
item_in_with ps x = go (list_any (λ u. tree_eq u x) ps) refl
  where
    go : (b : Bool) → list_any (λ u. tree_eq u x) ps ≡ b → x ∈ cond b ps (ps ++ x ∷ [])
    go true e = let (u, i, q) = any_true (λ u. tree_eq u x) ps e in transport (λ t. t ∈ ps) ((tree_eq_decides u x).0 q) i
    go false e = in_right x ps (x ∷ []) (inl refl)

abbrev pub all_with : List Tree → List Tree → List Tree
all_with ps xs = fold (with_item tree_eq) ps xs

stands_with_all : (ps xs : List Tree) (t : Tree) → t ∈ ps → stands_for (all_with ps xs) t ≡ stands_for ps t
stands_with_all ps [] t i = refl
stands_with_all ps (x ∷ xs) t i = stands_with_all (with_item tree_eq ps x) xs t (in_with ps x t i) ∙ stands_with ps x t i

in_with_all : (ps xs : List Tree) (t : Tree) → t ∈ ps → t ∈ all_with ps xs
in_with_all ps [] t i = i
in_with_all ps (x ∷ xs) t i = in_with_all (with_item tree_eq ps x) xs t (in_with ps x t i)

items_in_with_all : (ps xs : List Tree) (t : Tree) → t ∈ xs → t ∈ all_with ps xs
items_in_with_all ps [] t i = absurd i
items_in_with_all ps (x ∷ xs) t (inl e) = in_with_all (with_item tree_eq ps x) xs t (transport (λ u. u ∈ with_item tree_eq ps x) (sym e) (item_in_with ps x))
items_in_with_all ps (x ∷ xs) t (inr i) = items_in_with_all (with_item tree_eq ps x) xs t i

-- Notes

-- a part with the variables that stand for its arguments
abbrev pub noted : List Tree → Tree → Tree
noted ps (var v) = var v
noted ps (app f us) = app f (of_list (map (stands_for ps) (to_list us)))

-- the arguments of the tree are among the parts
abbrev HasArguments : List Tree → Tree → Type 0
HasArguments ps t = (f : Sym) (us : Trees) → t ≡ app f us → (u : Tree) → u ∈ to_list us → u ∈ ps

record AreNotes (notes ps : List Tree) : Type 0 where
  notes_are : notes ≡ map (noted ps) ps
  once : IsDistinct ps
  closed : (t : Tree) → t ∈ ps → HasArguments ps t

stands_apart : (ps : List Tree) (t u : Tree) → t ∈ ps → u ∈ ps → stands_for ps t ≡ stands_for ps u → t ≡ u
stands_apart ps t u i j e =
    let same : position_or_len (λ x. tree_eq x t) ps ≡ position_or_len (λ x. tree_eq x u) ps = cc in
    sym (item_at_position tree_eq tree_eq_decides t (var 0) ps i) ∙ ap (λ n. get_or ps n (var 0)) same ∙ item_at_position tree_eq tree_eq_decides u (var 0) ps j

lists_apart : (ps ts us : List Tree) → ((t : Tree) → t ∈ ts → t ∈ ps) → ((u : Tree) → u ∈ us → u ∈ ps) → map (stands_for ps) ts ≡ map (stands_for ps) us → ts ≡ us
lists_apart ps [] [] h k e = refl
lists_apart ps [] (u ∷ us) h k e = absurd (cc)
lists_apart ps (t ∷ ts) [] h k e = absurd (cc)
lists_apart ps (t ∷ ts) (u ∷ us) h k e =
    let first : stands_for ps t ≡ stands_for ps u = cc in
    let rest : map (stands_for ps) ts ≡ map (stands_for ps) us = cc in
    λ i. stands_apart ps t u (h t (inl refl)) (k u (inl refl)) first i ∷ lists_apart ps ts us (λ x j. h x (inr j)) (λ x j. k x (inr j)) rest i

noted_apart : (ps : List Tree) (t u : Tree) → HasArguments ps t → HasArguments ps u → noted ps t ≡ noted ps u → t ≡ u
noted_apart ps (var v) (var w) h k e = e
noted_apart ps (var v) (app g us) h k e = absurd (cc)
noted_apart ps (app f ts) (var w) h k e = absurd (cc)
noted_apart ps (app f ts) (app g us) h k e =
    let arguments = sym (same_list (map (stands_for ps) (to_list ts))) ∙ ap to_list (app_trees e) ∙ same_list (map (stands_for ps) (to_list us)) in
    let same : to_list ts ≡ to_list us = lists_apart ps (to_list ts) (to_list us) (h f ts refl) (k g us refl) arguments in
    λ i. app (app_symbol e i) ((sym (same_trees ts) ∙ ap of_list same ∙ same_trees us) i)

module _ (notes ps : List Tree) (are : AreNotes notes ps) (t : Tree) (arguments : HasArguments ps t) where
  same_tests : (p : Tree) → p ∈ ps → tree_eq (noted ps p) (noted ps t) ≡ tree_eq p t
  same_tests p i = same_test (tree_eq (noted ps p) (noted ps t)) (tree_eq p t) (tree_eq_decides (noted ps p) (noted ps t)) (tree_eq_decides p t)
      (noted_apart ps p t (are.closed p i) arguments) (ap (noted ps))

  -- the note is found where the part is
  note_stands : stands_for notes (noted ps t) ≡ stands_for ps t
  note_stands = ap var (ap (position_or_len (λ u. tree_eq u (noted ps t))) are.notes_are ∙ place_of_map (λ u. tree_eq u (noted ps t)) (noted ps) ps
      ∙ place_agree (λ p. tree_eq (noted ps p) (noted ps t)) (λ p. tree_eq p t) ps same_tests)

  note_any : list_any (λ u. tree_eq u (noted ps t)) notes ≡ list_any (λ p. tree_eq p t) ps
  note_any = ap (list_any (λ u. tree_eq u (noted ps t))) are.notes_are ∙ any_of_map (λ u. tree_eq u (noted ps t)) (noted ps) ps
      ∙ any_agree (λ p. tree_eq (noted ps p) (noted ps t)) (λ p. tree_eq p t) ps same_tests

noted_in_more : (ps qs : List Tree) (t : Tree) → HasArguments ps t → noted (ps ++ qs) t ≡ noted ps t
noted_in_more ps qs (var v) h = refl
noted_in_more ps qs (app f us) h = ap (λ ts. app f (of_list ts)) (map_agree (stands_for (ps ++ qs)) (stands_for ps) (to_list us) (λ u i. stands_in_more ps qs u (h f us refl u i)))

once_more : (ps : List Tree) (t : Tree) → IsDistinct ps → ¬ (t ∈ ps) → IsDistinct (ps ++ t ∷ [])
once_more [] t h n = (λ i. i, tt)
once_more (p ∷ ps) t h n = (λ i. elim (in_push p t ps i) [ inl j ↦ h.0 j | inr e ↦ n (inl (sym e)) ], once_more ps t h.1 (λ i. n (inr i)))

-- one more part
module _ (notes ps : List Tree) (are : AreNotes notes ps) (t : Tree) (arguments : HasArguments ps t) where
  with_note : AreNotes (with_item tree_eq notes (noted ps t)) (with_item tree_eq ps t)
  with_note = go (list_any (λ u. tree_eq u (noted ps t)) notes) (list_any (λ p. tree_eq p t) ps) (note_any notes ps are t arguments) refl
    where
      go : (b c : Bool) → b ≡ c → list_any (λ p. tree_eq p t) ps ≡ c → AreNotes (cond b notes (notes ++ noted ps t ∷ [])) (cond c ps (ps ++ t ∷ []))
      go true true e h = are
      go true false e h = absurd (cc)
      go false true e h = absurd (cc)
      go false false e h = record {
        notes_are =
            ap₂ (λ xs x. xs ++ x ∷ []) (are.notes_are ∙ map_agree (noted ps) (noted (ps ++ t ∷ [])) ps (λ p i. sym (noted_in_more ps (t ∷ []) p (are.closed p i)))) (sym (noted_in_more ps (t ∷ []) t arguments))
            ∙ sym (map-append (noted (ps ++ t ∷ [])) ps (t ∷ []));
        once = once_more ps t are.once (λ i. let found : list_any (λ p. tree_eq p t) ps ≡ true = any_from (λ p. tree_eq p t) ps t i (itself t) in absurd (cc));
        closed = λ u i f us e v j. in_left v ps (t ∷ []) (elim (in_push u t ps i) [
          | inl k ↦ are.closed u k f us e v j
          | inr q ↦ arguments f us (sym q ∙ e) v j
        ]);
      }

  stands_after : stands_for (with_item tree_eq ps t) t ≡ stands_for ps t
  stands_after = go (list_any (λ p. tree_eq p t) ps) refl
    where
      go : (b : Bool) → list_any (λ p. tree_eq p t) ps ≡ b → stands_for (cond b ps (ps ++ t ∷ [])) t ≡ stands_for ps t
      go true e = refl
      go false e =
          let absent = λ (p : Tree) (i : p ∈ ps). is_false (tree_eq p t) (any_false (λ u. tree_eq u t) ps e p i) in
          ap var (place_at_end (λ u. tree_eq u t) t ps [] absent (itself t) ∙ sym (place_absent (λ u. tree_eq u t) ps absent))

  note_after : stands_for notes (noted ps t) ≡ stands_for (with_item tree_eq ps t) t
  note_after = note_stands notes ps are t arguments ∙ sym stands_after

-- The walk

mutual
  walk_tree : (notes ps : List Tree) → AreNotes notes ps → (t : Tree) → AreNotes (placed notes t) (all_with ps (parts t)) × (placed_name notes t ≡ stands_for (all_with ps (parts t)) t)
  walk_tree notes ps are (var v) =
      let none_of : HasArguments ps (var v) = λ f us e. absurd (cc) in
      (with_note notes ps are (var v) none_of, note_after notes ps are (var v) none_of)
  walk_tree notes ps are (app f us) =
      let (walked, names) = walk_trees notes ps are us in
      let arguments : HasArguments (all_with ps (parts_of_each us)) (app f us) =
      λ g vs e u i. items_in_with_all ps (parts_of_each us) u (argument_is_part u us (transport (λ xs. u ∈ to_list xs) (sym (app_trees e)) i)) in
      let note : noted (all_with ps (parts_of_each us)) (app f us) ≡ app f (of_list (placed_names notes us)) = ap (λ ts. app f (of_list ts)) (sym names) in
      let all : all_with ps (parts_of_each us ++ app f us ∷ []) ≡ with_item tree_eq (all_with ps (parts_of_each us)) (app f us) = fold-append (with_item tree_eq) ps (parts_of_each us) (app f us ∷ []) in (
        transport (λ xs. AreNotes (placed notes (app f us)) xs) (sym all)
            (transport (λ n. AreNotes (with_item tree_eq (placed_each notes us) n) (with_item tree_eq (all_with ps (parts_of_each us)) (app f us))) note
            (with_note (placed_each notes us) (all_with ps (parts_of_each us)) walked (app f us) arguments)),
        ap (stands_for (placed_each notes us)) (sym note) ∙ note_after (placed_each notes us) (all_with ps (parts_of_each us)) walked (app f us) arguments ∙ ap (λ xs. stands_for xs (app f us)) (sym all),
      )

  walk_trees : (notes ps : List Tree) → AreNotes notes ps → (us : Trees) → AreNotes (placed_each notes us) (all_with ps (parts_of_each us)) × (placed_names notes us ≡ map (stands_for (all_with ps (parts_of_each us))) (to_list us))
  walk_trees notes ps are none = (are, refl)
  walk_trees notes ps are (more u us) =
      let (first, name) = walk_tree notes ps are u in
      let (walked, names) = walk_trees (placed notes u) (all_with ps (parts u)) first us in
      let all : all_with ps (parts u ++ parts_of_each us) ≡ all_with (all_with ps (parts u)) (parts_of_each us) = fold-append (with_item tree_eq) ps (parts u) (parts_of_each us) in
      let stays : stands_for (all_with (all_with ps (parts u)) (parts_of_each us)) u ≡ stands_for (all_with ps (parts u)) u =
      stands_with_all (all_with ps (parts u)) (parts_of_each us) u (items_in_with_all ps (parts u) u (part_of_itself u)) in (
        transport (λ xs. AreNotes (placed_each (placed notes u) us) xs) (sym all) walked,
        (λ i. (name ∙ sym stays) i ∷ names i) ∙ ap (λ xs. map (stands_for xs) (u ∷ to_list us)) (sym all),
      )

-- the parts of the literals
abbrev literal_parts : TreeClause → List Tree
literal_parts c = flat_map (λ (l : Signed Tree). atom_parts l.atom) c

module _ (ns : Numbers) where
  -- the literals from here on, where the variables are those of all parts
  abbrev IsWalked : (notes ps : List Tree) → TreeClause → Type 0
  IsWalked notes ps c = AreNotes (placed_clause notes c) (all_with ps (literal_parts c)) × (placed_literals ns notes c ≡ map (flat_literal ns (all_with ps (literal_parts c))) c)

  walk_clause : (notes ps : List Tree) → AreNotes notes ps → (c : TreeClause) → IsWalked notes ps c
  walk_clause notes ps are [] = (are, refl)
  walk_clause notes ps are (l ∷ c) = go l.atom (λ ms qs h. walk_clause ms qs h c)
    where
      go : (t : Tree) → ((ms qs : List Tree) → AreNotes ms qs → IsWalked ms qs c) → AreNotes (placed_clause (placed_atom notes t) c) (all_with ps (atom_parts t ++ literal_parts c))
          × (record { positive = l.positive; atom = placed_flat ns notes t } ∷ placed_literals ns (placed_atom notes t) c
          ≡ record { positive = l.positive; atom = flat_atom ns (all_with ps (atom_parts t ++ literal_parts c)) t } ∷ map (flat_literal ns (all_with ps (atom_parts t ++ literal_parts c))) c)
      go (var v) walk = let (walked, rest) = walk notes ps are in (walked, ap (λ d. record { positive = l.positive; atom = var v } ∷ d) rest)
      go (app p us) walk =
          let (first, names) = walk_trees notes ps are us in
          let (walked, rest) = walk (placed_each notes us) (all_with ps (parts_of_each us)) first in
          let all : all_with ps (parts_of_each us ++ literal_parts c) ≡ all_with (all_with ps (parts_of_each us)) (literal_parts c) = fold-append (with_item tree_eq) ps (parts_of_each us) (literal_parts c) in
          let stay : map (stands_for (all_with ps (parts_of_each us))) (to_list us) ≡ map (stands_for (all_with (all_with ps (parts_of_each us)) (literal_parts c))) (to_list us) =
          map_agree (stands_for (all_with ps (parts_of_each us))) (stands_for (all_with (all_with ps (parts_of_each us)) (literal_parts c))) (to_list us)
          (λ u i. sym (stands_with_all (all_with ps (parts_of_each us)) (literal_parts c) u (items_in_with_all ps (parts_of_each us) u (argument_is_part u us i)))) in (
            transport (λ xs. AreNotes (placed_clause (placed_each notes us) c) xs) (sym all) walked,
            (λ i. record { positive = l.positive; atom = applied (predicate_for ns p.kind p) ((names ∙ stay) i) } ∷ rest i)
                ∙ ap (λ xs. record { positive = l.positive; atom = flat_atom ns xs (app p us) } ∷ map (flat_literal ns xs) c) (sym all),
          )

  -- The denials

  apart_from_later : (done rest : List Tree) (x y : Tree) → IsDistinct (done ++ x ∷ rest) → y ∈ done → ¬ (y ≡ x)
  apart_from_later [] rest x y h i e = i
  apart_from_later (d ∷ done) rest x y h (inl q) e = h.0 (in_right d done (x ∷ rest) (inl (sym q ∙ e)))
  apart_from_later (d ∷ done) rest x y h (inr i) e = apart_from_later done rest x y h.1 i e

  denials_are : (ps done rest : List Tree) → IsDistinct ps → ps ≡ done ++ rest → note_denials ns (length done) (map (noted ps) rest) ≡ flat_map (value_denial ns ps) rest
  denials_are ps done [] h e = refl
  denials_are ps done (x ∷ rest) h e =
      let one : length (done ++ x ∷ []) ≡ length done + 1 = length-append done (x ∷ []) in
      let more_done : ps ≡ (done ++ x ∷ []) ++ rest = e ∙ sym (append_assoc done (x ∷ []) rest) in
      λ i. denial x refl i ++ (ap (λ n. note_denials ns n (map (noted ps) rest)) (sym one) ∙ denials_are ps (done ++ x ∷ []) rest h more_done) i
    where
      stands : stands_for ps x ≡ var (length done)
      stands = ap (λ xs. stands_for xs x) e
          ∙ ap var (place_at_end (λ u. tree_eq u x) x done rest (λ y i. is_false (tree_eq y x) (λ q. apart_from_later done rest x y (transport IsDistinct e h) i ((tree_eq_decides y x).0 q))) (itself x))

      denial : (t : Tree) → t ≡ x → note_denial ns (length done) (noted ps t) ≡ value_denial ns ps t
      denial (var v) q = refl
      denial (app f us) q = λ i. record { positive = false; atom = applied (function_predicate ns f) (same_list (map (stands_for ps) (to_list us)) i ++ (sym stands ∙ ap (stands_for ps) (sym q)) i ∷ []) } ∷ []

  -- what the walk notes and leaves is the flat clause
  pub walked_is_flat : (c : TreeClause) → note_denials ns 0 (placed_clause [] c) ++ placed_literals ns [] c ≡ flat_clause ns c
  walked_is_flat c =
      let (are, literals) = walk_clause [] [] (record { notes_are = refl; once = tt; closed = λ t i. absurd i }) c in
      let all : all_with [] (literal_parts c) ≡ clause_parts c = distinct_append tree_eq tree_eq_decides [] (literal_parts c) in
      (λ i. (ap (note_denials ns 0) are.notes_are ∙ denials_are (all_with [] (literal_parts c)) [] (all_with [] (literal_parts c)) are.once refl) i ++ literals i)
      ∙ ap (λ ps. flat_map (value_denial ns ps) ps ++ map (flat_literal ns ps) c) all
