-- At most so many parentheses are open at once in a printed clause as its trees have.
use Rattle.std.proofs.Common.{◌≡◌, ℕ, ◌+◌, ◌≤◌, ◌<◌, Bool, true, false, List, [], ◌∷◌, refl, arith}
use Rattle.std.specs.List.{list_all}
use Rattle.inst_logic.specs.declared.symbol.Kind.{Kind}
use Rattle.inst_logic.specs.declared.symbol.Kind.TheVariants.{Predicate, Equality, Function}
use Rattle.inst_logic.specs.declared.signed.Signed.{Signed}
use Rattle.inst_logic.specs.Tree.{Tree, var, app, Trees}
use Rattle.inst_logic.specs.Tree as tree
use Rattle.inst_logic.specs.Clauses.{TreeClause}
use Rattle.inst_logic.specs.Printing.{is_lower_word}
use Rattle.tptp_read.specs.Stream.{Tok}
use Rattle.tptp_read.specs.Lexemes.{mark, lower, is_punctuation}
use Rattle.tptp_read.specs.Rules.{opens, closes, nesting_from, nesting}
use Rattle.tptp_read.specs.Grammar.{term, terms, simple_text, items, unequal_mark, form}
use Rattle.tptp_write.specs.Again.{one_more, tree_nesting, trees_nesting, atom_nesting, literal_nesting, clause_nesting}
use Rattle.tptp_write.proofs.Written.{name_kind, name_tok, variable_tok, false_tok, written, headed, writtens, sides_of, simple_tree, simple_by, simple_of, items_of, form_of, good_sides, good_by, good_atom, good_literal}
use Rattle.tptp_write.proofs.Tokens.{both_true}

-- no more than `most` are open, where `d` are open before
abbrev Flat : ℕ → ℕ → List Tok → Type 0
Flat most d ts = (o c : ℕ) → o ≡ c + d → nesting_from o c ts ≤ most

end_flat : (m d : ℕ) → Flat m d []
end_flat m d o c e = omega arith

other_flat : (m d : ℕ) (t : Tok) (ts : List Tok) → opens t ≡ false → closes t ≡ false → d ≤ m → Flat m d ts → Flat m d (t ∷ ts)
other_flat m d t ts no_open no_close le h o c e = let rest = h o c e in rw (no_open, no_close) (omega (arith, rest, le, e))

open_flat : (m d : ℕ) (ts : List Tok) → d + 1 ≤ m → Flat m (d + 1) ts → Flat m d (mark 40 ∷ ts)
open_flat m d ts le h o c e = let rest = h (o + 1) c (omega (arith, e)) in omega (arith, rest, le, e)

close_flat : (m d : ℕ) (ts : List Tok) → d + 1 ≤ m → Flat m d ts → Flat m (d + 1) (mark 41 ∷ ts)
close_flat m d ts le h o c e = let rest = h o (c + 1) (omega (arith, e)) in omega (arith, rest, le, e)

no_mark : (e : Bool) → is_punctuation (name_kind e) ≡ false
no_mark true = refl
no_mark false = refl

name_flat : (m d : ℕ) (n : List ℕ) (ts : List Tok) → d ≤ m → Flat m d ts → Flat m d (name_tok n ∷ ts)
name_flat m d n ts le h = let no = no_mark (is_lower_word n) in other_flat m d (name_tok n) ts (rw no refl) (rw no refl) le h

mutual
  tree_flat : (t : Tree) (m d : ℕ) (us : List Tok) → d + tree_nesting t ≤ m → Flat m d us → Flat m d (term (written t) us)
  tree_flat (var n) m d us le h = other_flat m d (variable_tok n) us refl refl (omega (arith, le)) h
  tree_flat (app s ts) m d us le h = headed_flat s.name ts m d us le h

  headed_flat : (name : List ℕ) (ts : Trees) (m d : ℕ) (us : List Tok) → d + one_more ts (trees_nesting ts) ≤ m → Flat m d us → Flat m d (term (headed name ts) us)
  headed_flat name tree.none m d us le h = name_flat m d name us (omega (arith, le)) h
  headed_flat name (tree.more t ts) m d us le h =
      let inner = term (written t) (terms (writtens ts) (mark 41 ∷ us)) in
      name_flat m d name (mark 40 ∷ inner) (omega (arith, le))
      (open_flat m d inner (omega (arith, le)) (tree_flat t m (d + 1) (terms (writtens ts) (mark 41 ∷ us)) (omega (arith, le)) (more_flat ts m d us (omega (arith, le)) h)))

  more_flat : (ts : Trees) (m d : ℕ) (us : List Tok) → d + 1 + trees_nesting ts ≤ m → Flat m d us → Flat m (d + 1) (terms (writtens ts) (mark 41 ∷ us))
  more_flat tree.none m d us le h = close_flat m d us (omega (arith, le)) h
  more_flat (tree.more t ts) m d us le h =
      other_flat m (d + 1) (mark 44) (term (written t) (terms (writtens ts) (mark 41 ∷ us))) refl refl (omega (arith, le))
      (tree_flat t m (d + 1) (terms (writtens ts) (mark 41 ∷ us)) (omega (arith, le)) (more_flat ts m d us (omega (arith, le)) h))

atom_flat : (positive : Bool) (name : List ℕ) (ts : Trees) (m d : ℕ) (us : List Tok) → d + one_more ts (trees_nesting ts) ≤ m → Flat m d us → Flat m d (simple_text (simple_by positive Predicate name ts) us)
atom_flat true name ts m d us le h = headed_flat name ts m d us le h
atom_flat false name ts m d us le h = other_flat m d (mark 126) (term (headed name ts) us) refl refl (omega (arith, le)) (headed_flat name ts m d us le h)

equation_flat : (positive : Bool) (t u : Tree) (m d : ℕ) (us : List Tok) → d + tree_nesting t ≤ m → d + tree_nesting u ≤ m → Flat m d us → Flat m d (simple_text (sides_of positive [] (tree.more t (tree.more u tree.none))) us)
equation_flat true t u m d us le le' h =
    tree_flat t m d (mark 61 ∷ term (written u) us) le (other_flat m d (mark 61) (term (written u) us) refl refl (omega (arith, le)) (tree_flat u m d us le' h))
equation_flat false t u m d us le le' h =
    tree_flat t m d (unequal_mark ∷ term (written u) us) le (other_flat m d unequal_mark (term (written u) us) refl refl (omega (arith, le)) (tree_flat u m d us le' h))

sides_flat : (positive : Bool) (name : List ℕ) (ts : Trees) (m d : ℕ) (us : List Tok) → good_sides ts ≡ true → d + trees_nesting ts ≤ m → Flat m d us → Flat m d (simple_text (sides_of positive name ts) us)
sides_flat positive name (tree.more t (tree.more u tree.none)) m d us g le h = equation_flat positive t u m d us (omega (arith, le)) (omega (arith, le)) h
sides_flat positive name tree.none m d us g le h = absurd cc
sides_flat positive name (tree.more t tree.none) m d us g le h = absurd cc
sides_flat positive name (tree.more t (tree.more u (tree.more v ts))) m d us g le h = absurd cc

kind_flat : (positive : Bool) (k : Kind) (name : List ℕ) (ts : Trees) (m d : ℕ) (us : List Tok) → good_by k name ts ≡ true → d + atom_nesting k ts ≤ m → Flat m d us → Flat m d (simple_text (simple_by positive k name ts) us)
kind_flat positive Predicate name ts m d us g le h = atom_flat positive name ts m d us le h
kind_flat positive Equality name ts m d us g le h = sides_flat positive name ts m d us g le h
kind_flat positive Function name ts m d us g le h = absurd cc

tree_literal : (positive : Bool) (t : Tree) (m d : ℕ) (us : List Tok) → good_atom t ≡ true → d + literal_nesting t ≤ m → Flat m d us → Flat m d (simple_text (simple_tree positive t) us)
tree_literal positive (var n) m d us g le h = absurd cc
tree_literal positive (app s ts) m d us g le h = kind_flat positive s.kind s.name ts m d us g le h

clause_flat : (l : Signed Tree) (ls : TreeClause) (m d : ℕ) (us : List Tok) → good_literal l ≡ true → list_all good_literal ls ≡ true → d + clause_nesting (l ∷ ls) ≤ m → Flat m d us → Flat m d (simple_text (simple_of l) (items (items_of ls) us))
clause_flat l [] m d us g gs le h = tree_literal l.positive l.atom m d us g (omega (arith, le)) h
clause_flat l (k ∷ ls) m d us g gs le h =
    let both = both_true (good_literal k) (list_all good_literal ls) gs in
    let more = simple_text (simple_of k) (items (items_of ls) us) in
    tree_literal l.positive l.atom m d (mark 124 ∷ more) g (omega (arith, le))
    (other_flat m d (mark 124) more refl refl (omega (arith, le)) (clause_flat k ls m d us both.0 both.1 (omega (arith, le)) h))

tail_flat : (m : ℕ) → 1 ≤ m → Flat m 1 (mark 41 ∷ mark 46 ∷ [])
tail_flat m le = close_flat m 0 (mark 46 ∷ []) (omega (arith, le)) (other_flat m 0 (mark 46) [] refl refl (omega arith) (end_flat m 0))

head_flat : (m : ℕ) (ts : List Tok) → 1 ≤ m → Flat m 1 ts → Flat m 0 (lower (99 ∷ 110 ∷ 102 ∷ []) ∷ mark 40 ∷ lower (97 ∷ []) ∷ mark 44 ∷ lower (97 ∷ 120 ∷ 105 ∷ 111 ∷ 109 ∷ []) ∷ mark 44 ∷ ts)
head_flat m ts le h =
    let word = lower (97 ∷ 120 ∷ 105 ∷ 111 ∷ 109 ∷ []) in
    let last = other_flat m 1 (mark 44) ts refl refl le h in
    let role = other_flat m 1 word (mark 44 ∷ ts) refl refl le last in
    let comma = other_flat m 1 (mark 44) (word ∷ mark 44 ∷ ts) refl refl le role in
    let name = other_flat m 1 (lower (97 ∷ [])) (mark 44 ∷ word ∷ mark 44 ∷ ts) refl refl le comma in
    let inner = lower (97 ∷ []) ∷ mark 44 ∷ word ∷ mark 44 ∷ ts in
    other_flat m 0 (lower (99 ∷ 110 ∷ 102 ∷ [])) (mark 40 ∷ inner) refl refl (omega arith) (open_flat m 0 inner (omega (arith, le)) name)

form_flat : (c : TreeClause) (m : ℕ) → list_all good_literal c ≡ true → clause_nesting c + 1 ≤ m → Flat m 0 (form (form_of c))
form_flat [] m g le =
    head_flat m (false_tok ∷ mark 41 ∷ mark 46 ∷ []) (omega (arith, le)) (other_flat m 1 false_tok (mark 41 ∷ mark 46 ∷ []) refl refl (omega (arith, le)) (tail_flat m (omega (arith, le))))
form_flat (l ∷ ls) m g le =
    let both = both_true (good_literal l) (list_all good_literal ls) g in
    head_flat m (simple_text (simple_of l) (items (items_of ls) (mark 41 ∷ mark 46 ∷ []))) (omega (arith, le))
    (clause_flat l ls m 1 (mark 41 ∷ mark 46 ∷ []) both.0 both.1 (omega (arith, le)) (tail_flat m (omega (arith, le))))

pub is_flat : (c : TreeClause) → list_all good_literal c ≡ true → clause_nesting c + 1 ≤ 256 → nesting (form (form_of c)) < 257
is_flat c g le = omega (arith, form_flat c 256 g le 0 0 (omega arith))
