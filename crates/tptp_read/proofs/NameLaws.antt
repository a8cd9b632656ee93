-- The names in the literals of what is read.
use Rattle.std.proofs.Common.{◌≡◌, ℕ, Bool, true, false, cond, List, [], ◌∷◌, ◌++◌, Option, Some, None, refl, sym, ◌∙◌}
use Rattle.std.specs.Prelude.{not, ◌&&◌, ◌||◌}
use Rattle.std.specs.List.{list_all, flat_map, position_or_len}
use Rattle.std.specs.Str.{bytes_eq}
use Rattle.std.proofs.lemmas.List.Folds.{list_all-append}
use Rattle.inst_logic.specs.declared.symbol.Kind.TheVariants.{Function}
use Rattle.inst_logic.specs.Printing.{is_readable_name}
use Rattle.inst_logic.specs.Tree.{Tree, var, app}
use Rattle.inst_logic.specs.Tree as tree
use Rattle.inst_logic.specs.declared.signed.Signed.{Signed}
use Rattle.tptp_read.specs.declared.kind.TokenKind.{TokenKind}
use Rattle.tptp_read.specs.declared.kind.TokenKind.TheVariants.{LowerWord, Variable, DollarWord, QuotedWord, DistinctObject, Integer, Rational, Real, Punctuation}
use Rattle.tptp_read.specs.Stream.{Tok}
use Rattle.tptp_read.specs.Lexemes.{is_head, is_plain, is_feature, is_variable_kind, is_name_kind}
use Rattle.tptp_read.specs.Grammar.{Written, single, applied, Writtens, none, more, term_fits, terms_fit, is_atom}
use Rattle.tptp_read.specs.Meaning.{Wrote, predicate, equal, tokens_of, tokens_of_all, used_tokens, first_feature, tree_of, trees_of, predicate_of, literal_of, is_constant_atom, name_of}
use Rattle.tptp_read.specs.Plain.{wrote_fits, all_tokens}
use Rattle.tptp_read.specs.Names.{tree_is_readable, trees_are_readable, clause_is_readable}
use Rattle.tptp_read.proofs.ParseLaws.{both_true, and_both}
use Rattle.tptp_read.proofs.Spelling.{is_good}

-- a word that may have arguments and is supported is a name
head_name : (k : TokenKind) → is_head k ≡ true → is_feature k ≡ false → is_name_kind k ≡ true
head_name Punctuation e f = absurd cc
head_name LowerWord e f = refl
head_name DollarWord e f = absurd cc
head_name QuotedWord e f = refl
head_name Variable e f = absurd cc
head_name DistinctObject e f = absurd cc
head_name Integer e f = refl
head_name Rational e f = absurd cc
head_name Real e f = absurd cc

plain_name : (k : TokenKind) → is_plain k ≡ true → is_feature k ≡ false → is_variable_kind k ≡ false → is_name_kind k ≡ true
plain_name Punctuation e f v = absurd cc
plain_name LowerWord e f v = refl
plain_name DollarWord e f v = absurd cc
plain_name QuotedWord e f v = refl
plain_name Variable e f v = absurd cc
plain_name DistinctObject e f v = absurd cc
plain_name Integer e f v = refl
plain_name Rational e f v = absurd cc
plain_name Real e f v = absurd cc

implied : (a b : Bool) → (not a || b) ≡ true → a ≡ true → b ≡ true
implied true b h e = h
implied false b h e = absurd cc

pub good_name : (t : Tok) → is_good t ≡ true → is_name_kind t.kind ≡ true → is_readable_name (name_of t) ≡ true
good_name t g n = implied (is_name_kind t.kind) (is_readable_name (name_of t)) g n

-- ---- tokens that are good and supported

none_chosen : (b : Bool) (w : List ℕ) (o : Option (List ℕ)) → cond b (Some w) o ≡ None → (b ≡ false) × (o ≡ None)
none_chosen true w o e = absurd cc
none_chosen false w o e = (refl, e)

features_apart : (xs ys : List Tok) → first_feature (xs ++ ys) ≡ None → (first_feature xs ≡ None) × (first_feature ys ≡ None)
features_apart [] ys e = (refl, e)
features_apart (x ∷ xs) ys e =
    let c = none_chosen (is_feature x.kind) x.text (first_feature (xs ++ ys)) e in
    let r = features_apart xs ys c.1 in
    (rw (c.0) r.0, r.1)

-- tokens spelled by the table, all of them supported
pub record AreSound (ts : List Tok) : Type 0 where
  pub good : list_all is_good ts ≡ true
  pub supported : first_feature ts ≡ None

pub goods_apart : (xs ys : List Tok) → list_all is_good (xs ++ ys) ≡ true → (list_all is_good xs ≡ true) × (list_all is_good ys ≡ true)
goods_apart xs ys h = both_true (list_all is_good xs) (list_all is_good ys) (sym (list_all-append is_good xs ys) ∙ h)

sound_apart : (xs ys : List Tok) → AreSound (xs ++ ys) → AreSound xs × AreSound ys
sound_apart xs ys s =
    let g = goods_apart xs ys s.good in
    let f = features_apart xs ys s.supported in
    (record { good = g.0; supported = f.0 }, record { good = g.1; supported = f.1 })

record IsSound (t : Tok) : Type 0 where
  good : is_good t ≡ true
  supported : is_feature t.kind ≡ false

sound_head : (t : Tok) (ts : List Tok) → AreSound (t ∷ ts) → IsSound t × AreSound ts
sound_head t ts s =
    let g = both_true (is_good t) (list_all is_good ts) s.good in
    let f = none_chosen (is_feature t.kind) t.text (first_feature ts) s.supported in
    (record { good = g.0; supported = f.0 }, record { good = g.1; supported = f.1 })

-- ---- trees

leaf_readable : (b : Bool) (n : ℕ) (name : List ℕ) → (b ≡ false → is_readable_name name ≡ true) → tree_is_readable (cond b (var n) (app (record { kind = Function; name = name; arity = 0 }) tree.none)) ≡ true
leaf_readable true n name h = refl
leaf_readable false n name h = and_both (is_readable_name name) true (h refl) refl

word_name : (f : Tok) → is_head f.kind ≡ true → IsSound f → is_readable_name (name_of f) ≡ true
word_name f head s = good_name f s.good (head_name f.kind head s.supported)

-- the name of a word with arguments, and those of its arguments
applied_readable : (vs : List (List ℕ)) (f : Tok) (t : Written) (ts : Writtens) → is_readable_name (name_of f) ≡ true → tree_is_readable (tree_of vs t) ≡ true → trees_are_readable (trees_of vs ts) ≡ true → (is_readable_name (name_of f) && (tree_is_readable (tree_of vs t) && trees_are_readable (trees_of vs ts))) ≡ true
applied_readable vs f t ts n h k =
    and_both (is_readable_name (name_of f)) (tree_is_readable (tree_of vs t) && trees_are_readable (trees_of vs ts)) n (and_both (tree_is_readable (tree_of vs t)) (trees_are_readable (trees_of vs ts)) h k)

-- what fits and is sound of a word with arguments
record AreParts (f : Tok) (t : Written) (ts : Writtens) : Type 0 where
  name : is_readable_name (name_of f) ≡ true
  first_fits : term_fits t ≡ true
  first_sound : AreSound (tokens_of t)
  others_fit : terms_fit ts ≡ true
  others_sound : AreSound (tokens_of_all ts)

parts_of : (f : Tok) (t : Written) (ts : Writtens) → (is_head f.kind && (term_fits t && terms_fit ts)) ≡ true → AreSound (f ∷ (tokens_of t ++ tokens_of_all ts)) → AreParts f t ts
parts_of f t ts fits s =
    let f1 = both_true (is_head f.kind) (term_fits t && terms_fit ts) fits in
    let f2 = both_true (term_fits t) (terms_fit ts) f1.1 in
    let h = sound_head f (tokens_of t ++ tokens_of_all ts) s in
    let a = sound_apart (tokens_of t) (tokens_of_all ts) h.1 in
    record { name = word_name f f1.0 h.0; first_fits = f2.0; first_sound = a.0; others_fit = f2.1; others_sound = a.1 }

mutual
  tree_readable : (vs : List (List ℕ)) (w : Written) → term_fits w ≡ true → AreSound (tokens_of w) → tree_is_readable (tree_of vs w) ≡ true
  tree_readable vs (single t) fits s =
      let h = (sound_head t [] s).0 in
      leaf_readable (is_variable_kind t.kind) (position_or_len (λ v. bytes_eq v t.text) vs) (name_of t) (λ v. good_name t h.good (plain_name t.kind fits h.supported v))
  tree_readable vs (applied f t ts) fits s =
      let p = parts_of f t ts fits s in
      applied_readable vs f t ts p.name (tree_readable vs t p.first_fits p.first_sound) (trees_readable vs ts p.others_fit p.others_sound)

  trees_readable : (vs : List (List ℕ)) (ts : Writtens) → terms_fit ts ≡ true → AreSound (tokens_of_all ts) → trees_are_readable (trees_of vs ts) ≡ true
  trees_readable vs none fits s = refl
  trees_readable vs (more t ts) fits s =
      let f2 = both_true (term_fits t) (terms_fit ts) fits in
      let a = sound_apart (tokens_of t) (tokens_of_all ts) s in
      and_both (tree_is_readable (tree_of vs t)) (trees_are_readable (trees_of vs ts)) (tree_readable vs t f2.0 a.0) (trees_readable vs ts f2.1 a.1)

predicate_readable : (vs : List (List ℕ)) (w : Written) → is_atom w ≡ true → term_fits w ≡ true → AreSound (tokens_of w) → tree_is_readable (predicate_of vs w) ≡ true
predicate_readable vs (single t) at fits s = and_both (is_readable_name (name_of t)) true (word_name t at (sound_head t [] s).0) refl
predicate_readable vs (applied f t ts) at fits s =
    let p = parts_of f t ts fits s in
    applied_readable vs f t ts p.name (tree_readable vs t p.first_fits p.first_sound) (trees_readable vs ts p.others_fit p.others_sound)

-- ---- literals

one_readable : (b : Bool) (l : Signed Tree) (ts : List Tok) → (first_feature ts ≡ None → tree_is_readable l.atom ≡ true) → first_feature (cond b [] ts) ≡ None → clause_is_readable (cond b [] (l ∷ [])) ≡ true
one_readable true l ts h e = refl
one_readable false l ts h e = and_both (tree_is_readable l.atom) true (h e) refl

pub literal_readable : (vs : List (List ℕ)) (w : Wrote) → wrote_fits w ≡ true → list_all is_good (all_tokens w) ≡ true → first_feature (used_tokens w) ≡ None → clause_is_readable (literal_of vs w) ≡ true
literal_readable vs (predicate sign t) fits good supported =
    let f = both_true (is_atom t) (term_fits t) fits in
    one_readable (is_constant_atom t) (record { positive = sign; atom = predicate_of vs t }) (tokens_of t) (λ e. predicate_readable vs t f.0 f.1 (record { good = good; supported = e })) supported
literal_readable vs (equal sign t u) fits good supported =
    let f = both_true (term_fits t) (term_fits u) fits in
    let a = sound_apart (tokens_of t) (tokens_of u) (record { good = good; supported = supported }) in
    let right = and_both (tree_is_readable (tree_of vs u)) true (tree_readable vs u f.1 a.1) refl in
    let sides = and_both (tree_is_readable (tree_of vs t)) (tree_is_readable (tree_of vs u) && true) (tree_readable vs t f.0 a.0) right in
    and_both (tree_is_readable (tree_of vs t) && (tree_is_readable (tree_of vs u) && true)) true sides refl

pub literals_readable : (vs : List (List ℕ)) (ws : List Wrote) → list_all wrote_fits ws ≡ true → list_all is_good (flat_map all_tokens ws) ≡ true → first_feature (flat_map used_tokens ws) ≡ None → clause_is_readable (flat_map (literal_of vs) ws) ≡ true
literals_readable vs [] fits good supported = refl
literals_readable vs (w ∷ ws) fits good supported =
    let f = both_true (wrote_fits w) (list_all wrote_fits ws) fits in
    let g = goods_apart (all_tokens w) (flat_map all_tokens ws) good in
    let s = features_apart (used_tokens w) (flat_map used_tokens ws) supported in
    list_all-append (λ (l : Signed Tree). tree_is_readable l.atom) (literal_of vs w) (flat_map (literal_of vs) ws)
    ∙ and_both (clause_is_readable (literal_of vs w)) (clause_is_readable (flat_map (literal_of vs) ws)) (literal_readable vs w f.0 g.0 s.0) (literals_readable vs ws f.1 g.1 s.1)

-- `$true` and `$false` alone are not used, and all other tokens are
used_none : (b : Bool) (ts : List Tok) → first_feature ts ≡ None → first_feature (cond b [] ts) ≡ None
used_none true ts e = refl
used_none false ts e = e

pub all_used : (w : Wrote) → first_feature (all_tokens w) ≡ None → first_feature (used_tokens w) ≡ None
all_used (predicate sign t) e = used_none (is_constant_atom t) (tokens_of t) e
all_used (equal sign t u) e = e
