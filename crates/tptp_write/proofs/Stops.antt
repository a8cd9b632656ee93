-- The full stop is the last token of a form and no other.
use Rattle.std.proofs.Common.{◌≡◌, true, false, List, [], ◌∷◌, refl, ap}
use Rattle.std.specs.Prelude.{◌&&◌, not}
use Rattle.tptp_read.specs.Stream.{Tok}
use Rattle.tptp_read.specs.Lexemes.{mark, lower, is_head, is_plain, is_mark_token}
use Rattle.tptp_read.specs.Rules.{stops_last}
use Rattle.tptp_read.specs.Grammar.{Written, single, applied, Writtens, none, more, term, terms, term_fits, terms_fit, Negated, no_atom, no_equation, in_parens, negated_text, negated_fits, is_atom, Simple, atom, equation, unequal, negated, simple_text, simple_fits, unequal_mark, Item, simple, nested, Items, last, or, item, items, item_fits, items_fit}
use Rattle.tptp_read.proofs.ClauseLaws.{plain_is_no_mark, head_is_no_mark}
use Rattle.tptp_write.proofs.Tokens.{both_true, and_both}
pub use Rattle.tptp_read.proofs.Law.{stops_cons as goes_on}

plain_goes_on : (t : Tok) (ts : List Tok) → is_plain t.kind ≡ true → stops_last ts ≡ true → stops_last (t ∷ ts) ≡ true
plain_goes_on t ts e h = let other = plain_is_no_mark t.kind e in goes_on t ts (rw other refl) h

head_goes_on : (t : Tok) (ts : List Tok) → is_head t.kind ≡ true → stops_last ts ≡ true → stops_last (t ∷ ts) ≡ true
head_goes_on t ts e h = let other = head_is_no_mark t.kind e in goes_on t ts (rw other refl) h

mutual
  term_stops : (t : Written) (us : List Tok) → term_fits t ≡ true → stops_last us ≡ true → stops_last (term t us) ≡ true
  term_stops (single t) us f h = plain_goes_on t us f h
  term_stops (applied k t ts) us f h =
      let a = both_true (is_head k.kind) (term_fits t && terms_fit ts) f in
      let b = both_true (term_fits t) (terms_fit ts) a.1 in
      let inner = term_stops t (terms ts (mark 41 ∷ us)) b.0 (terms_stop ts (mark 41 ∷ us) b.1 (goes_on (mark 41) us refl h)) in
      head_goes_on k (mark 40 ∷ term t (terms ts (mark 41 ∷ us))) a.0 (goes_on (mark 40) (term t (terms ts (mark 41 ∷ us))) refl inner)

  terms_stop : (ts : Writtens) (us : List Tok) → terms_fit ts ≡ true → stops_last us ≡ true → stops_last (terms ts us) ≡ true
  terms_stop none us f h = h
  terms_stop (more t ts) us f h =
      let b = both_true (term_fits t) (terms_fit ts) f in
      goes_on (mark 44) (term t (terms ts us)) refl (term_stops t (terms ts us) b.0 (terms_stop ts us b.1 h))

two_stop : (t u : Written) (m : Tok) (us : List Tok) → is_mark_token 46 m ≡ false → (term_fits t && term_fits u) ≡ true → stops_last us ≡ true → stops_last (term t (m ∷ term u us)) ≡ true
two_stop t u m us e f h =
    let b = both_true (term_fits t) (term_fits u) f in
    term_stops t (m ∷ term u us) b.0 (goes_on m (term u us) e (term_stops u us b.1 h))

negated_stops : (n : Negated) (us : List Tok) → negated_fits n ≡ true → stops_last us ≡ true → stops_last (negated_text n us) ≡ true
negated_stops (no_atom t) us f h = term_stops t us (both_true (is_atom t) (term_fits t) f).1 h
negated_stops (no_equation t u) us f h = two_stop t u (mark 61) us refl f h
negated_stops (in_parens n) us f h = goes_on (mark 40) (negated_text n (mark 41 ∷ us)) refl (negated_stops n (mark 41 ∷ us) f (goes_on (mark 41) us refl h))

simple_stops : (s : Simple) (us : List Tok) → simple_fits s ≡ true → stops_last us ≡ true → stops_last (simple_text s us) ≡ true
simple_stops (atom t) us f h = term_stops t us (both_true (is_atom t) (term_fits t) f).1 h
simple_stops (equation t u) us f h = two_stop t u (mark 61) us refl f h
simple_stops (unequal t u) us f h = two_stop t u unequal_mark us refl f h
simple_stops (negated n) us f h = goes_on (mark 126) (negated_text n us) refl (negated_stops n us f h)

mutual
  pub item_stops : (i : Item) (us : List Tok) → item_fits i ≡ true → stops_last us ≡ true → stops_last (item i us) ≡ true
  item_stops (simple s) us f h = simple_stops s us f h
  item_stops (nested i is) us f h =
      let b = both_true (item_fits i) (items_fit is) f in
      goes_on (mark 40) (item i (items is (mark 41 ∷ us))) refl (item_stops i (items is (mark 41 ∷ us)) b.0 (items_stop is (mark 41 ∷ us) b.1 (goes_on (mark 41) us refl h)))

  pub items_stop : (is : Items) (us : List Tok) → items_fit is ≡ true → stops_last us ≡ true → stops_last (items is us) ≡ true
  items_stop last us f h = h
  items_stop (or i is) us f h =
      let b = both_true (item_fits i) (items_fit is) f in
      goes_on (mark 124) (item i (items is us)) refl (item_stops i (items is us) b.0 (items_stop is us b.1 h))

-- the tokens before the disjunction, and the disjunction
pub statement_stops : (name role : Tok) (i : Item) (is : Items) → is_mark_token 46 name ≡ false → is_mark_token 46 role ≡ false → item_fits i ≡ true → items_fit is ≡ true
    → stops_last (lower (99 ∷ 110 ∷ 102 ∷ []) ∷ mark 40 ∷ name ∷ mark 44 ∷ role ∷ mark 44 ∷ item i (items is (mark 41 ∷ mark 46 ∷ []))) ≡ true
statement_stops name role i is e k f g =
    let body = item_stops i (items is (mark 41 ∷ mark 46 ∷ [])) f (items_stop is (mark 41 ∷ mark 46 ∷ []) g refl) in
    let rest = item i (items is (mark 41 ∷ mark 46 ∷ [])) in
    and_both (not (is_mark_token 46 name)) _ (ap not e) (and_both (not (is_mark_token 46 role)) _ (ap not k) (goes_on (mark 44) rest refl body))
