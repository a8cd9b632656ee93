-- Each text is readable or offends, and never both, nor in two ways.
use Rattle.std.proofs.Common.{◌≡◌, ℕ, zero, suc, ◌+◌, ◌≤◌, ◌<◌, Bool, true, false, cond, List, [], ◌∷◌, length, Option, Some, None, Result, Ok, Err, refl, sym, ap, subst, ◌∙◌, inl, inr, arith}
use Rattle.std.specs.Prelude.{◌&&◌, not, nat_le}
use Rattle.std.specs.Option.{option_map_or}
use Rattle.std.proofs.lemmas.Bool.{le-leb}
use Rattle.std.proofs.lemmas.Bool.Decides.{leb_tells}
use Rattle.std.proofs.Math.Dec.{leb}
use Rattle.tptp_read.specs.declared.kind.TokenKind.{TokenKind}
use Rattle.tptp_read.specs.declared.kind.TokenKind.TheVariants.{LowerWord, Variable, DollarWord, QuotedWord, DistinctObject, Integer, Rational, Real, Punctuation}
use Rattle.tptp_read.specs.Stream.{Tok, IsNext, IsDone}
use Rattle.tptp_read.specs.declared.statement.Which.TheVariants.{Nesting}
use Rattle.tptp_read.specs.declared.statement.Statement.{Statement}
use Rattle.tptp_read.specs.Lexemes.{Begins, mark, lower, is_mark_token, is_lower_kind}
use Rattle.tptp_read.specs.Grammar.{Form, IsForm}
use Rattle.tptp_read.specs.Meaning.{Fault, syntax_fault, language, limit, judged}
use Rattle.tptp_read.specs.Parse.{◌>>=◌}
use Rattle.tptp_read.specs.ParseForm.{form_at}
use Rattle.tptp_read.specs.Rules.{is_language, IsOtherLanguage, IsNoOtherLanguage, stops_last, IsFront, HasNoFront, nesting, IsRead, IsOffence, other_language, no_front, too_deep, no_form, refused}
use Rattle.tptp_read.specs.Text.{Outcome, readable, offends, Has, IsDecided}
use Rattle.tptp_read.proofs.ParseLaws.{chosen, some_is, bind_some, both_true, mark_is}
use Rattle.tptp_read.proofs.FormLaws.{form_spelled, form_read}
use Rattle.tptp_read.proofs.Nexts.{next, next_is, is_next, next_shorter, done_none, done_or}
use Rattle.std.proofs.lemmas.Option.{none-some}
use Rattle.inst_logic.proofs.Booleans.{is_true, true_is, not_true}
use Rattle.inst_logic.proofs.Outcomes.{some_or_none}

-- ---- the tokens up to the first full stop

front_of : ℕ → List ℕ → Option (List Tok × List ℕ)
front_of zero text = None
front_of (suc n) text = next text >>= λ t. cond (is_mark_token 46 t.0) (Some (t.0 ∷ [], t.1)) (front_of n t.1 >>= λ f. Some (t.0 ∷ f.0, f.1))

-- how long the tokens are at most
pub begins_len : (ts : List Tok) (text rest : List ℕ) → Begins text ts rest → length rest + length ts ≤ length text
begins_len [] text rest b = omega (arith, ap length b)
begins_len (t ∷ ts) text rest b = omega (arith, begins_len ts b.0 rest b.2, next_shorter text t b.0 b.1)

pub stops_cons : (t : Tok) (ts : List Tok) → is_mark_token 46 t ≡ false → stops_last ts ≡ true → stops_last (t ∷ ts) ≡ true
stops_cons t [] other s = absurd cc
stops_cons t (u ∷ ts) other s = rw other s

front_again : (n : ℕ) (ts : List Tok) (text rest : List ℕ) → Begins text ts rest → stops_last ts ≡ true → length ts ≤ n → front_of n text ≡ Some (ts, rest)
unfolding front_of
front_again n [] text rest b s le = absurd cc
front_again zero (t ∷ ts) text rest b s le = absurd (omega arith)
front_again (suc n) (t ∷ []) text rest b s le = rw (next_is text t b.0 b.1, s) (ap (λ (r : List ℕ). Some (t ∷ [], r)) b.2)
front_again (suc n) (t ∷ u ∷ ts) text rest b s le =
    let split = both_true (not (is_mark_token 46 t)) (stops_last (u ∷ ts)) s in
    let other = not_true (is_mark_token 46 t) split.0 in
    let h = front_again n (u ∷ ts) b.0 rest b.2 split.1 (omega arith) in
    rw (next_is text t b.0 b.1, other, h) refl

abbrev IsCut : List ℕ → List Tok × List ℕ → Type 0
IsCut text z = Begins text z.0 z.1 × (stops_last z.0 ≡ true)

front_found : (n : ℕ) (text : List ℕ) (z : List Tok × List ℕ) → front_of n text ≡ Some z → IsCut text z
unfolding front_of
front_found zero text z e = absurd cc
front_found (suc n) text z e =
    let a = bind_some (next text) (λ t. cond (is_mark_token 46 t.0) (Some (t.0 ∷ [], t.1)) (front_of n t.1 >>= λ f. Some (t.0 ∷ f.0, f.1))) z e in
    let first = is_next text a.0 a.1 in
    elim (chosen (is_mark_token 46 a.0.0) (Some (a.0.0 ∷ [], a.0.1)) (front_of n a.0.1 >>= λ f. Some (a.0.0 ∷ f.0, f.1)) (Some z) a.2) [
      | inl w ↦ subst (IsCut text) (some_is (a.0.0 ∷ [], a.0.1) z w.1) ((a.0.1, first, refl), w.0)
      | inr w ↦
          let b = bind_some (front_of n a.0.1) (λ f. Some (a.0.0 ∷ f.0, f.1)) z w.1 in
          let h = front_found n a.0.1 b.0 b.1 in
          subst (IsCut text) (some_is (a.0.0 ∷ b.0.0, b.0.1) z b.2) ((a.0.1, first, h.0), stops_cons a.0.0 b.0.0 w.0 h.1)
    ]

-- ---- other languages

language_of : List ℕ → Option (List ℕ)
language_of text = next text >>= λ t. cond (is_lower_kind t.0.kind && is_language t.0.text) (next t.1 >>= λ u. cond (is_mark_token 40 u.0) (Some t.0.text) None) None

language_is : (text w : List ℕ) → IsOtherLanguage text w → language_of text ≡ Some w
unfolding language_of
language_is text w h = rw (next_is text (lower w) h.behind h.word, is_true (is_language w) h.is_name, next_is h.behind (mark 40) h.rest h.parenthesis) refl

lower_is : (k : TokenKind) → is_lower_kind k ≡ true → k ≡ LowerWord
lower_is LowerWord e = refl
lower_is Punctuation e = absurd cc
lower_is Variable e = absurd cc
lower_is DollarWord e = absurd cc
lower_is QuotedWord e = absurd cc
lower_is DistinctObject e = absurd cc
lower_is Integer e = absurd cc
lower_is Rational e = absurd cc
lower_is Real e = absurd cc

pub word_is : (t : Tok) (w : List ℕ) → is_lower_kind t.kind ≡ true → t.text ≡ w → t ≡ lower w
word_is t w k e = let kind = lower_is t.kind k in λ i. record { kind = kind i; text = e i }

language_found : (text w : List ℕ) → language_of text ≡ Some w → IsOtherLanguage text w
unfolding language_of
language_found text w e =
    let a = bind_some (next text) (λ t. cond (is_lower_kind t.0.kind && is_language t.0.text) (next t.1 >>= λ u. cond (is_mark_token 40 u.0) (Some t.0.text) None) None) w e in
    elim (chosen (is_lower_kind a.0.0.kind && is_language a.0.0.text) (next a.0.1 >>= λ u. cond (is_mark_token 40 u.0) (Some a.0.0.text) None) None (Some w) a.2) [
      | inl v ↦
          let b = bind_some (next a.0.1) (λ u. cond (is_mark_token 40 u.0) (Some a.0.0.text) None) w v.1 in
          elim (chosen (is_mark_token 40 b.0.0) (Some a.0.0.text) None (Some w) b.2) [
            | inl u ↦
                let both = both_true (is_lower_kind a.0.0.kind) (is_language a.0.0.text) v.0 in
                let kind = lower_is a.0.0.kind both.0 in
                let text_is = some_is a.0.0.text w u.1 in
                let tok_is : a.0.0 ≡ lower w = λ i. record { kind = kind i; text = text_is i } in
                record {
                  is_name = true_is (is_language w) (subst (λ (x : List ℕ). is_language x ≡ true) text_is both.1);
                  behind = a.0.1;
                  rest = b.0.1;
                  word = subst (λ (t : Tok). IsNext text t a.0.1) tok_is (is_next text a.0 a.1);
                  parenthesis = subst (λ (t : Tok). IsNext a.0.1 t b.0.1) (mark_is 40 b.0.0 u.0) (is_next a.0.1 b.0 b.1);
                }
            | inr u ↦ absurd (none-some w u.1)
          ]
      | inr v ↦ absurd (none-some w v.1)
    ]

-- an option with the equation that says what it is
no_language : (text : List ℕ) → IsNoOtherLanguage text → language_of text ≡ None
no_language text none = elim (some_or_none (language_of text)) [ inl e ↦ e | inr w ↦ absurd (none w.0 (language_found text w.0 w.1)) ]

no_language_is : (text : List ℕ) → language_of text ≡ None → IsNoOtherLanguage text
no_language_is text e w h = none-some w (sym e ∙ language_is text w h)

-- ---- one statement

pub data One : Type 0 where
  reads : Statement → List ℕ → One
  faults : Fault → One

abbrev pub HasOne : List ℕ → One → Type 0
HasOne text (reads s rest) = IsRead text s rest
HasOne text (faults e) = IsOffence text e

is_flat : (n : ℕ) → n < 257 → leb 257 n ≡ false
is_flat n lt = elim (leb_tells 257 n) [ inl deep ↦ absurd (omega (arith, deep.1)) | inr flat ↦ flat.0 ]

no_cut : (text : List ℕ) → HasNoFront text → front_of (length text) text ≡ None
no_cut text none = elim (some_or_none (front_of (length text) text)) [
  | inl e ↦ e
  | inr z ↦ let found = front_found (length text) text z.0 z.1 in absurd (none z.0.0 z.0.1 (record { begins = found.0; stops = found.1 }))
]

some_front : (ts : List Tok) (text rest : List ℕ) → Begins text ts rest → stops_last ts ≡ true → (length rest < length text) × (IsDone text → ⊥)
some_front [] text rest b s = absurd cc
some_front (t ∷ ts) text rest b s =
    let len = begins_len (t ∷ ts) text rest b in
    (omega (arith, len), λ d. none-some (t, b.0) (sym (done_none text d) ∙ next_is text t b.0 b.1))

pub read_shrinks : (text : List ℕ) (s : Statement) (rest : List ℕ) → IsRead text s rest → length rest < length text
read_shrinks text s rest r = (some_front r.tokens text rest r.front.begins r.front.stops).0

is_done : List ℕ → Bool
is_done text = elim (done_or text) as (λ x. Bool) [ inl d ↦ true | inr n ↦ false ]

done_true : (text : List ℕ) → IsDone text → is_done text ≡ true
unfolding is_done
done_true text h = elim (done_or text) as (λ x. elim x as (λ y. Bool) [ inl d ↦ true | inr n ↦ false ] ≡ true) [ inl d ↦ refl | inr n ↦ absurd (n h) ]

not_done : (text : List ℕ) → (IsDone text → ⊥) → is_done text ≡ false
unfolding is_done
not_done text h = elim (done_or text) as (λ x. elim x as (λ y. Bool) [ inl d ↦ true | inr n ↦ false ] ≡ false) [ inl d ↦ absurd (h d) | inr n ↦ refl ]

read_not_done : (text : List ℕ) (s : Statement) (rest : List ℕ) → IsRead text s rest → is_done text ≡ false
read_not_done text s rest r = not_done text (some_front r.tokens text rest r.front.begins r.front.stops).1

of_judged : List ℕ → Result Statement Fault → One
of_judged rest (Ok s) = reads s rest
of_judged rest (Err e) = faults e

of_front : List Tok × List ℕ → One
of_front z = cond (nat_le 257 (nesting z.0)) (faults (limit Nesting)) (option_map_or (λ f. of_judged z.1 (judged f)) (form_at z.0) (faults syntax_fault))

one : List ℕ → One
one text = option_map_or (λ w. faults (language w)) (language_of text) (option_map_or of_front (front_of (length text) text) (faults syntax_fault))

no_parse : (ts : List Tok) → ((f : Form) → IsForm ts f → ⊥) → form_at ts ≡ None
no_parse ts none = elim (some_or_none (form_at ts)) [ inl e ↦ e | inr f ↦ absurd (none f.0 (form_spelled ts f.0 f.1)) ]

front_is : (text : List ℕ) (ts : List Tok) (rest : List ℕ) → IsFront text ts rest → front_of (length text) text ≡ Some (ts, rest)
front_is text ts rest f = front_again (length text) ts text rest f.begins (is_true _ f.stops) (omega (arith, begins_len ts text rest f.begins))

one_is : (text : List ℕ) (o : One) → HasOne text o → one text ≡ o
unfolding one of_front of_judged
one_is text (reads s rest) h = rw (no_language text h.language, front_is text h.tokens rest h.front, is_flat (nesting h.tokens) h.flat, form_read h.tokens h.form h.is_form, h.value) refl
one_is text (faults e) (other_language w lang is) = rw (language_is text w lang) (ap faults (sym is))
one_is text (faults e) (no_front lang none is) = rw (no_language text lang, no_cut text none) (ap faults (sym is))
one_is text (faults e) (too_deep lang ts rest f deep is) = rw (no_language text lang, front_is text ts rest f, le-leb 257 (nesting ts) deep) (ap faults (sym is))
one_is text (faults e) (no_form lang ts rest f flat none is) = rw (no_language text lang, front_is text ts rest f, is_flat (nesting ts) flat, no_parse ts none) (ap faults (sym is))
one_is text (faults e) (refused lang ts rest f flat form is_form fault) = rw (no_language text lang, front_is text ts rest f, is_flat (nesting ts) flat, form_read ts form is_form, fault) refl

by_value : (text : List ℕ) → IsNoOtherLanguage text → (ts : List Tok) (rest : List ℕ) → IsFront text ts rest → nesting ts < 257 → (f : Form) → IsForm ts f → (v : Result Statement Fault) → judged f ≡ v → (o : One) × HasOne text o
by_value text lang ts rest front flat f is_form (Ok s) e = (reads s rest, record { language = lang; tokens = ts; front = front; flat = flat; form = f; is_form = is_form; value = e })
by_value text lang ts rest front flat f is_form (Err d) e = (faults d, refused lang ts rest front flat f is_form e)

by_form : (text : List ℕ) → IsNoOtherLanguage text → (ts : List Tok) (rest : List ℕ) → IsFront text ts rest → nesting ts < 257 → (o : One) × HasOne text o
by_form text lang ts rest front flat = elim (some_or_none (form_at ts)) [
  | inl none ↦ (faults syntax_fault, no_form lang ts rest front flat (λ f is_form. none-some f (sym none ∙ form_read ts f is_form)) refl)
  | inr f ↦ by_value text lang ts rest front flat f.0 (form_spelled ts f.0 f.1) (judged f.0) refl
]

by_front : (text : List ℕ) → IsNoOtherLanguage text → (ts : List Tok) (rest : List ℕ) → IsFront text ts rest → (o : One) × HasOne text o
by_front text lang ts rest front = elim (leb_tells 257 (nesting ts)) [
  | inl deep ↦ (faults (limit Nesting), too_deep lang ts rest front deep.1 refl)
  | inr flat ↦ by_form text lang ts rest front flat.1
]

one_exists : (text : List ℕ) → (o : One) × HasOne text o
one_exists text = elim (some_or_none (language_of text)) [
  | inr w ↦ (faults (language w.0), other_language w.0 (language_found text w.0 w.1) refl)
  | inl lang ↦ elim (some_or_none (front_of (length text) text)) [
    | inl none ↦ (faults syntax_fault, no_front (no_language_is text lang) (λ ts rest f. none-some (ts, rest) (sym none ∙ front_is text ts rest f)) refl)
    | inr z ↦ let found = front_found (length text) text z.0 z.1 in by_front text (no_language_is text lang) z.0.0 z.0.1 (record { begins = found.0; stops = found.1 })
  ]
]

-- ---- whole texts

behind_one : Statement → Outcome → Outcome
behind_one s (readable ss) = readable (s ∷ ss)
behind_one s (offends k e) = offends (suc k) e

step : (List ℕ → Outcome) → One → Outcome
step go (reads s rest) = behind_one s (go rest)
step go (faults e) = offends 1 e

outcome_of : ℕ → List ℕ → Outcome
outcome_of zero text = readable []
outcome_of (suc n) text = cond (is_done text) (readable []) (step (outcome_of n) (one text))

whole_only : (n : ℕ) (text : List ℕ) (o : Outcome) → length text < n → Has text o → outcome_of n text ≡ o
unfolding outcome_of step behind_one
whole_only zero text o lt h = absurd (omega arith)
whole_only (suc n) text (readable []) lt h = rw (done_true text h) refl
whole_only (suc n) text (readable (s ∷ ss)) lt h =
    let shorter = read_shrinks text s h.0 h.1 in
    rw (read_not_done text s h.0 h.1, one_is text (reads s h.0) h.1, whole_only n h.0 (readable ss) (omega arith) h.2) refl
whole_only (suc n) text (offends zero e) lt h = absurd h
whole_only (suc n) text (offends (suc zero) e) lt h = rw (not_done text h.0, one_is text (faults e) h.1) refl
whole_only (suc n) text (offends (suc (suc k)) e) lt h =
    let shorter = read_shrinks text h.0 h.1 h.2 in
    rw (read_not_done text h.0 h.1 h.2, one_is text (reads h.0 h.1) h.2, whole_only n h.1 (offends (suc k) e) (omega arith) h.3) refl

behind_read : (text : List ℕ) (s : Statement) (rest : List ℕ) → IsRead text s rest → (o : Outcome) → Has rest o → (p : Outcome) × Has text p
behind_read text s rest r (readable ss) h = (readable (s ∷ ss), (rest, r, h))
behind_read text s rest r (offends zero e) h = absurd h
behind_read text s rest r (offends (suc k) e) h = (offends (suc (suc k)) e, (s, rest, r, h))

from_one : (n : ℕ) (text : List ℕ) → (IsDone text → ⊥) → (o : One) → HasOne text o → ((s : Statement) (rest : List ℕ) → IsRead text s rest → (p : Outcome) × Has rest p) → (p : Outcome) × Has text p
from_one n text ne (faults e) h go = (offends 1 e, (ne, h))
from_one n text ne (reads s rest) h go = let r = go s rest h in behind_read text s rest h r.0 r.1

whole_exists : (n : ℕ) (text : List ℕ) → length text < n → (o : Outcome) × Has text o
whole_exists zero text lt = absurd (omega arith)
whole_exists (suc n) text lt = elim (done_or text) [
  | inl d ↦ (readable [], d)
  | inr ne ↦ from_one n text ne (one_exists text).0 (one_exists text).1 (λ s rest r. let shorter = read_shrinks text s rest r in whole_exists n rest (omega arith))
]

pub law : (text : List ℕ) → IsDecided text
law text =
    let n = suc (length text) in
    let found = whole_exists n text (omega arith) in
    record {
      outcome = found.0;
      holds = found.1;
      only = λ o h. sym (whole_only n text o (omega arith) h) ∙ whole_only n text found.0 (omega arith) found.1;
    }
