-- Literals and disjunctions: what is read is spelled so, and what is spelled so is read.
use Rattle.std.proofs.Common.{◌≡◌, ℕ, zero, suc, ◌+◌, ◌≤◌, max, true, false, cond, List, [], ◌∷◌, length, Some, None, refl, sym, ap, subst, ◌∙◌, inl, inr, arith}
use Rattle.std.specs.Prelude.{◌&&◌}
use Rattle.std.specs.Str.{bytes_eq}
use Rattle.std.proofs.lemmas.Slice.Eq.{bytes_eq-Decides}
use Rattle.tptp_read.specs.Stream.{Tok}
use Rattle.tptp_read.specs.Lexemes.{mark, is_punctuation}
use Rattle.tptp_read.specs.Grammar.{term, term_fits, is_atom, Negated, no_atom, no_equation, in_parens, negated_text, Simple, atom, equation, unequal, negated, simple_text, simple_fits, unequal_mark, Item, simple, nested, Items, last, or, item, items, item_fits, items_fit}
use Rattle.tptp_read.specs.Parse.{◌>>=◌, Reads, begins_with, behind, many_at, term_at}
use Rattle.tptp_read.specs.ParseClause.{is_unequal, negated_at, simple_at, items_of, item_with, item_at}
use Rattle.tptp_read.proofs.ParseLaws.{depth, both_true, and_both, bind_some, chosen, some_is, begins_is, punctuation_is, term_again, term_spelled, term_len}
use Rattle.tptp_read.proofs.ClauseLaws.{no_mark, Follows, negated_depth, negated_again, negated_spelled}
use Rattle.tptp_read.proofs.ManyLaws.{spell_all, all_fit, spelled_many, AllAgain, many_again}

unequal_is : (ts : List Tok) → is_unequal ts ≡ true → ts ≡ unequal_mark ∷ behind ts
unequal_is [] e = absurd cc
unequal_is (t ∷ ts) e =
    let both = both_true (is_punctuation t.kind) (bytes_eq t.text (33 ∷ 61 ∷ [])) e in
    let k = punctuation_is t.kind both.0 in
    let x = (bytes_eq-Decides t.text (33 ∷ 61 ∷ [])).0 both.1 in
    let same : t ≡ unequal_mark = λ i. record { kind = k i; text = x i } in
    ap (λ u. u ∷ ts) same

abbrev pub simple_depth : Simple → ℕ
simple_depth (atom t) = depth t
simple_depth (equation t u) = max (depth t) (depth u)
simple_depth (unequal t u) = max (depth t) (depth u)
simple_depth (negated n) = negated_depth n

pub simple_again : (s : Simple) (d : ℕ) (rest : List Tok) → Follows rest → simple_fits s ≡ true → simple_depth s ≤ d → simple_at d (simple_text s rest) ≡ Some (s, rest)
unfolding simple_at
simple_again (atom t) d rest f fits le =
    let b = both_true (is_atom t) (term_fits t) fits in
    rw (no_mark 126 t rest b.1, term_again t d rest le b.1 f.opens, f.equals, f.differs, b.0) refl
simple_again (equation t u) d rest f fits le =
    let b = both_true (term_fits t) (term_fits u) fits in
    rw (no_mark 126 t (mark 61 ∷ term u rest) b.0, term_again t d (mark 61 ∷ term u rest) (omega arith) b.0 refl, term_again u d rest (omega arith) b.1 f.opens) refl
simple_again (unequal t u) d rest f fits le =
    let b = both_true (term_fits t) (term_fits u) fits in
    rw (no_mark 126 t (unequal_mark ∷ term u rest) b.0, term_again t d (unequal_mark ∷ term u rest) (omega arith) b.0 refl, term_again u d rest (omega arith) b.1 f.opens) refl
simple_again (negated n) d rest f fits le = rw (negated_again n d d rest f fits le le) refl

abbrev pub IsSimpleAnd : List Tok → Simple × List Tok → Type 0
IsSimpleAnd ts z = (ts ≡ simple_text z.0 z.1) × (simple_fits z.0 ≡ true)

pub simple_spelled : (d : ℕ) (ts : List Tok) (z : Simple × List Tok) → simple_at d ts ≡ Some z → IsSimpleAnd ts z
unfolding simple_at
simple_spelled d ts z e =
    elim (chosen (begins_with 126 ts) (negated_at d d (behind ts) >>= λ n. Some (negated n.0, n.1)) (term_at d ts >>= λ t. cond (begins_with 61 t.1) (term_at d (behind t.1) >>= λ u. Some (equation t.0 u.0, u.1)) (cond (is_unequal t.1) (term_at d (behind t.1) >>= λ u. Some (unequal t.0 u.0, u.1)) (cond (is_atom t.0) (Some (atom t.0, t.1)) None))) (Some z) e) [
      | inl w ↦
          let a = bind_some (negated_at d d (behind ts)) (λ n. Some (negated n.0, n.1)) z w.1 in
          let inner = negated_spelled d d (behind ts) a.0 a.1 in
          subst (IsSimpleAnd ts) (some_is (negated a.0.0, a.0.1) z a.2) (begins_is 126 ts w.0 ∙ ap (λ us. mark 126 ∷ us) inner.0, inner.1)
      | inr w ↦
          let a = bind_some (term_at d ts) (λ t. cond (begins_with 61 t.1) (term_at d (behind t.1) >>= λ u. Some (equation t.0 u.0, u.1)) (cond (is_unequal t.1) (term_at d (behind t.1) >>= λ u. Some (unequal t.0 u.0, u.1)) (cond (is_atom t.0) (Some (atom t.0, t.1)) None))) z w.1 in
          let left = term_spelled d ts a.0 a.1 in
          elim (chosen (begins_with 61 a.0.1) (term_at d (behind a.0.1) >>= λ u. Some (equation a.0.0 u.0, u.1)) (cond (is_unequal a.0.1) (term_at d (behind a.0.1) >>= λ u. Some (unequal a.0.0 u.0, u.1)) (cond (is_atom a.0.0) (Some (atom a.0.0, a.0.1)) None)) (Some z) a.2) [
            | inl v ↦
                let b = bind_some (term_at d (behind a.0.1)) (λ u. Some (equation a.0.0 u.0, u.1)) z v.1 in
                let right = term_spelled d (behind a.0.1) b.0 b.1 in
                subst (IsSimpleAnd ts) (some_is (equation a.0.0 b.0.0, b.0.1) z b.2) (left.0 ∙ ap (λ us. term a.0.0 us) (begins_is 61 a.0.1 v.0 ∙ ap (λ us. mark 61 ∷ us) right.0), and_both (term_fits a.0.0) (term_fits b.0.0) left.1 right.1)
            | inr v ↦ elim (chosen (is_unequal a.0.1) (term_at d (behind a.0.1) >>= λ u. Some (unequal a.0.0 u.0, u.1)) (cond (is_atom a.0.0) (Some (atom a.0.0, a.0.1)) None) (Some z) v.1) [
              | inl u ↦
                  let b = bind_some (term_at d (behind a.0.1)) (λ u. Some (unequal a.0.0 u.0, u.1)) z u.1 in
                  let right = term_spelled d (behind a.0.1) b.0 b.1 in
                  subst (IsSimpleAnd ts) (some_is (unequal a.0.0 b.0.0, b.0.1) z b.2) (left.0 ∙ ap (λ us. term a.0.0 us) (unequal_is a.0.1 u.0 ∙ ap (λ us. unequal_mark ∷ us) right.0), and_both (term_fits a.0.0) (term_fits b.0.0) left.1 right.1)
              | inr u ↦ elim (chosen (is_atom a.0.0) (Some (atom a.0.0, a.0.1)) None (Some z) u.1) [
                | inl y ↦ subst (IsSimpleAnd ts) (some_is (atom a.0.0, a.0.1) z y.1) (left.0, and_both (is_atom a.0.0) (term_fits a.0.0) y.0 left.1)
                | inr y ↦ absurd cc
              ]
            ]
          ]
    ]

-- ---- disjunctions

abbrev pub listed_items : Items → List Item
listed_items last = []
listed_items (or i is) = i ∷ listed_items is

pub items_listed : (is : Items) → items_of (listed_items is) ≡ is
items_listed last = refl
items_listed (or i is) = ap (λ js. or i js) (items_listed is)

pub items_spelled : (is : Items) (rest : List Tok) → spell_all 124 item item_fits (listed_items is) rest ≡ items is rest
items_spelled last rest = refl
items_spelled (or i is) rest = ap (λ us. mark 124 ∷ item i us) (items_spelled is rest)

pub all_items_spelled : (is : List Item) (rest : List Tok) → spell_all 124 item item_fits is rest ≡ items (items_of is) rest
all_items_spelled [] rest = refl
all_items_spelled (i ∷ is) rest = ap (λ us. mark 124 ∷ item i us) (all_items_spelled is rest)

pub all_items_fit : (is : List Item) → all_fit 124 item item_fits is ≡ items_fit (items_of is)
all_items_fit [] = refl
all_items_fit (i ∷ is) = ap (λ b. item_fits i && b) (all_items_fit is)

abbrev pub IsItemAnd : List Tok → Item × List Tok → Type 0
IsItemAnd ts z = (ts ≡ item z.0 z.1) × (item_fits z.0 ≡ true)

item_spelled_with : (p : Reads Item) → ((ts : List Tok) (z : Item × List Tok) → p ts ≡ Some z → IsItemAnd ts z) → (d : ℕ) (ts : List Tok) (z : Item × List Tok) → item_with p d ts ≡ Some z → IsItemAnd ts z
unfolding item_with
item_spelled_with p exact d ts z e =
    elim (chosen (begins_with 40 ts) (p (behind ts) >>= λ i. many_at 124 p (length i.1) i.1 >>= λ is. cond (begins_with 41 is.1) (Some (nested i.0 (items_of is.0), behind is.1)) None) (simple_at d ts >>= λ s. Some (simple s.0, s.1)) (Some z) e) [
      | inl w ↦
          let a = bind_some (p (behind ts)) (λ i. many_at 124 p (length i.1) i.1 >>= λ is. cond (begins_with 41 is.1) (Some (nested i.0 (items_of is.0), behind is.1)) None) z w.1 in
          let b = bind_some (many_at 124 p (length a.0.1) a.0.1) (λ is. cond (begins_with 41 is.1) (Some (nested a.0.0 (items_of is.0), behind is.1)) None) z a.2 in
          let first = exact (behind ts) a.0 a.1 in
          let others = spelled_many 124 item item_fits p exact (length a.0.1) a.0.1 b.0 b.1 in
          elim (chosen (begins_with 41 b.0.1) (Some (nested a.0.0 (items_of b.0.0), behind b.0.1)) None (Some z) b.2) [
            | inl v ↦
                let inside = others.0 ∙ all_items_spelled b.0.0 b.0.1 ∙ ap (λ us. items (items_of b.0.0) us) (begins_is 41 b.0.1 v.0) in
                subst (IsItemAnd ts) (some_is (nested a.0.0 (items_of b.0.0), behind b.0.1) z v.1)
                (begins_is 40 ts w.0 ∙ ap (λ us. mark 40 ∷ us) (first.0 ∙ ap (λ us. item a.0.0 us) inside), and_both (item_fits a.0.0) (items_fit (items_of b.0.0)) first.1 (sym (all_items_fit b.0.0) ∙ others.1))
            | inr v ↦ absurd cc
          ]
      | inr w ↦
          let a = bind_some (simple_at d ts) (λ s. Some (simple s.0, s.1)) z w.1 in
          subst (IsItemAnd ts) (some_is (simple a.0.0, a.0.1) z a.2) (simple_spelled d ts a.0 a.1)
    ]

pub item_spelled : (m d : ℕ) (ts : List Tok) (z : Item × List Tok) → item_at m d ts ≡ Some z → IsItemAnd ts z
unfolding item_at
item_spelled zero d ts z e = item_spelled_with (λ us. None) (λ us y h. absurd cc) d ts z e
item_spelled (suc m) d ts z e = item_spelled_with (item_at m d) (item_spelled m d) d ts z e

-- ---- what is spelled so is read

abbrev mutual
  pub item_depth : Item → ℕ
  item_depth (simple s) = simple_depth s
  item_depth (nested i is) = max (item_depth i) (items_depth is) + 1

  pub items_depth : Items → ℕ
  items_depth last = 0
  items_depth (or i is) = max (item_depth i) (items_depth is)

negated_len : (n : Negated) (rest : List Tok) → length rest ≤ length (negated_text n rest)
negated_len (no_atom t) rest = omega (arith, term_len t rest)
negated_len (no_equation t u) rest = omega (arith, term_len t (mark 61 ∷ term u rest), term_len u rest)
negated_len (in_parens n) rest = omega (arith, negated_len n (mark 41 ∷ rest))

simple_len : (s : Simple) (rest : List Tok) → length rest ≤ length (simple_text s rest)
simple_len (atom t) rest = omega (arith, term_len t rest)
simple_len (equation t u) rest = omega (arith, term_len t (mark 61 ∷ term u rest), term_len u rest)
simple_len (unequal t u) rest = omega (arith, term_len t (unequal_mark ∷ term u rest), term_len u rest)
simple_len (negated n) rest = omega (arith, negated_len n rest)

mutual
  item_len : (i : Item) (rest : List Tok) → length rest ≤ length (item i rest)
  item_len (simple s) rest = simple_len s rest
  item_len (nested i is) rest = omega (arith, item_len i (items is (mark 41 ∷ rest)), items_len is (mark 41 ∷ rest))

  pub items_len : (is : Items) (rest : List Tok) → length rest + length (listed_items is) ≤ length (items is rest)
  items_len last rest = omega arith
  items_len (or i is) rest = omega (arith, item_len i (items is rest), items_len is rest)

simple_no_paren : (s : Simple) (rest : List Tok) → simple_fits s ≡ true → begins_with 40 (simple_text s rest) ≡ false
simple_no_paren (atom t) rest fits = no_mark 40 t rest (both_true (is_atom t) (term_fits t) fits).1
simple_no_paren (equation t u) rest fits = no_mark 40 t (mark 61 ∷ term u rest) (both_true (term_fits t) (term_fits u) fits).0
simple_no_paren (unequal t u) rest fits = no_mark 40 t (unequal_mark ∷ term u rest) (both_true (term_fits t) (term_fits u) fits).0
simple_no_paren (negated n) rest fits = refl

simple_item_again : (p : Reads Item) (d : ℕ) (s : Simple) (rest : List Tok) → Follows rest → simple_fits s ≡ true → simple_depth s ≤ d → item_with p d (simple_text s rest) ≡ Some (simple s, rest)
unfolding item_with
simple_item_again p d s rest f fits le = rw (simple_no_paren s rest fits, simple_again s d rest f fits le) refl

nested_again : (p : Reads Item) (d : ℕ) (i : Item) (is : Items) (rest : List Tok) → p (item i (items is (mark 41 ∷ rest))) ≡ Some (i, items is (mark 41 ∷ rest))
    → many_at 124 p (length (items is (mark 41 ∷ rest))) (items is (mark 41 ∷ rest)) ≡ Some (listed_items is, mark 41 ∷ rest) → item_with p d (item (nested i is) rest) ≡ Some (nested i is, rest)
unfolding item_with
nested_again p d i is rest first others = rw (first, others, items_listed is) refl

abbrev pub after_or : (r : List Tok) → Follows (mark 124 ∷ r)
after_or r = record { opens = refl; equals = refl; differs = refl }

abbrev after_close : (r : List Tok) → Follows (mark 41 ∷ r)
after_close r = record { opens = refl; equals = refl; differs = refl }

pub follows_items : (is : Items) (rest : List Tok) → Follows rest → Follows (items is rest)
follows_items last rest f = f
follows_items (or i is) rest f = after_or (item i (items is rest))

abbrev pub AllItemsAgain : Reads Item → List Item → Type 0
AllItemsAgain p is = AllAgain 124 item item_fits Follows after_or (λ r. refl) p is

mutual
  unfolding item_at

  pub item_again : (i : Item) (m d : ℕ) (rest : List Tok) → Follows rest → item_fits i ≡ true → item_depth i ≤ m → item_depth i ≤ d → item_at m d (item i rest) ≡ Some (i, rest)
  item_again (simple s) zero d rest f fits le le' = simple_item_again (λ us. None) d s rest f fits le'
  item_again (simple s) (suc m) d rest f fits le le' = simple_item_again (item_at m d) d s rest f fits le'
  item_again (nested i is) zero d rest f fits le le' = absurd (omega arith)
  item_again (nested i is) (suc m) d rest f fits le le' =
      let b = both_true (item_fits i) (items_fit is) fits in
      let us = items is (mark 41 ∷ rest) in
      let all = items_again is m d b.1 (omega arith) (omega arith) in
      let many = many_again 124 item item_fits Follows after_or (λ r. refl) (item_at m d) (length us) (listed_items is) (mark 41 ∷ rest) (after_close rest) refl (omega (arith, items_len is (mark 41 ∷ rest))) all in
      nested_again (item_at m d) d i is rest
      (item_again i m d us (follows_items is (mark 41 ∷ rest) (after_close rest)) b.0 (omega arith) (omega arith))
      (subst (λ (vs : List Tok). many_at 124 (item_at m d) (length us) vs ≡ Some (listed_items is, mark 41 ∷ rest)) (items_spelled is (mark 41 ∷ rest)) many)

  pub items_again : (is : Items) (m d : ℕ) → items_fit is ≡ true → items_depth is ≤ m → items_depth is ≤ d → AllItemsAgain (item_at m d) (listed_items is)
  items_again last m d fits le le' = tt
  items_again (or i is) m d fits le le' =
      let b = both_true (item_fits i) (items_fit is) fits in
      (λ r f. item_again i m d r f b.0 (omega arith) (omega arith), items_again is m d b.1 (omega arith) (omega arith))
