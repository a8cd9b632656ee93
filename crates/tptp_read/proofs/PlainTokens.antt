-- The tokens of what is read, without its marks.
use Rattle.std.proofs.Common.{◌≡◌, ℕ, Bool, true, false, cond, List, [], ◌∷◌, ◌++◌, Option, Some, refl, sym, ap, ◌∙◌, append_assoc}
use Rattle.std.specs.Prelude.{◌&&◌}
use Rattle.std.specs.List.{flat_map}
use Rattle.std.proofs.lemmas.List.{append-nil, append_cancel_right}
use Rattle.tptp_read.specs.Stream.{Tok}
use Rattle.tptp_read.specs.Lexemes.{mark, is_head, is_punctuation, is_feature, is_variable_kind}
use Rattle.tptp_read.specs.Grammar.{Written, single, applied, Writtens, none, more, term, terms, term_fits, terms_fit, is_atom, Negated, no_atom, no_equation, in_parens, negated_text, negated_fits, unequal_mark, Simple, atom, equation, unequal, negated, simple_text, simple_fits, Item, simple, nested, Items, last, or, item, items, item_fits, items_fit}
use Rattle.tptp_read.specs.Meaning.{Wrote, from_negated, from_simple, from_item, from_items, tokens_of, tokens_of_all, first_feature, variable_names}
use Rattle.tptp_read.specs.Plain.{plain, all_tokens, wrote_fits}
use Rattle.tptp_read.proofs.ParseLaws.{both_true, punctuation_is}
use Rattle.tptp_read.proofs.ClauseLaws.{plain_is_no_mark, head_is_no_mark}

plain_step : (x : Tok) (xs ys all : List Tok) (b : Bool) → all ≡ xs ++ ys → cond b all (x ∷ all) ≡ cond b xs (x ∷ xs) ++ ys
plain_step x xs ys all true e = e
plain_step x xs ys all false e = ap (λ l. x ∷ l) e

pub plain_append : (xs ys : List Tok) → plain (xs ++ ys) ≡ plain xs ++ plain ys
plain_append [] ys = refl
plain_append (x ∷ xs) ys = plain_step x (plain xs) (plain ys) (plain (xs ++ ys)) (is_punctuation x.kind) (plain_append xs ys)

mutual
  pub plain_term : (w : Written) (rest : List Tok) → term_fits w ≡ true → plain (term w rest) ≡ tokens_of w ++ plain rest
  plain_term (single t) rest fits = rw (plain_is_no_mark t.kind fits) refl
  plain_term (applied f t ts) rest fits =
      let f1 = both_true (is_head f.kind) (term_fits t && terms_fit ts) fits in
      let f2 = both_true (term_fits t) (terms_fit ts) f1.1 in
      let head = head_is_no_mark f.kind f1.0 in
      let inner : plain (term t (terms ts (mark 41 ∷ rest))) ≡ (tokens_of t ++ tokens_of_all ts) ++ plain rest =
      plain_term t (terms ts (mark 41 ∷ rest)) f2.0 ∙ ap (λ l. tokens_of t ++ l) (plain_terms ts (mark 41 ∷ rest) f2.1) ∙ sym (append_assoc (tokens_of t) (tokens_of_all ts) (plain rest)) in
      rw (head) (ap (λ l. f ∷ l) inner)

  pub plain_terms : (ts : Writtens) (rest : List Tok) → terms_fit ts ≡ true → plain (terms ts rest) ≡ tokens_of_all ts ++ plain rest
  plain_terms none rest fits = refl
  plain_terms (more t ts) rest fits =
      let f2 = both_true (term_fits t) (terms_fit ts) fits in
      plain_term t (terms ts rest) f2.0 ∙ ap (λ l. tokens_of t ++ l) (plain_terms ts rest f2.1) ∙ sym (append_assoc (tokens_of t) (tokens_of_all ts) (plain rest))

sides_plain : (t u : Written) (m : Tok) (rest : List Tok) → is_punctuation m.kind ≡ true → (term_fits t && term_fits u) ≡ true → plain (term t (m ∷ term u rest)) ≡ (tokens_of t ++ tokens_of u) ++ plain rest
sides_plain t u m rest e fits =
    let f = both_true (term_fits t) (term_fits u) fits in
    let right : plain (m ∷ term u rest) ≡ tokens_of u ++ plain rest = rw e (plain_term u rest f.1) in
    plain_term t (m ∷ term u rest) f.0 ∙ ap (λ l. tokens_of t ++ l) right ∙ sym (append_assoc (tokens_of t) (tokens_of u) (plain rest))

pub plain_negated : (n : Negated) (rest : List Tok) → negated_fits n ≡ true → plain (negated_text n rest) ≡ all_tokens (from_negated n) ++ plain rest
plain_negated (no_atom t) rest fits = plain_term t rest (both_true (is_atom t) (term_fits t) fits).1
plain_negated (no_equation t u) rest fits = sides_plain t u (mark 61) rest refl fits
plain_negated (in_parens n) rest fits = plain_negated n (mark 41 ∷ rest) fits

pub plain_simple : (s : Simple) (rest : List Tok) → simple_fits s ≡ true → plain (simple_text s rest) ≡ all_tokens (from_simple s) ++ plain rest
plain_simple (atom t) rest fits = plain_term t rest (both_true (is_atom t) (term_fits t) fits).1
plain_simple (equation t u) rest fits = sides_plain t u (mark 61) rest refl fits
plain_simple (unequal t u) rest fits = sides_plain t u unequal_mark rest refl fits
plain_simple (negated n) rest fits = plain_negated n rest fits

negated_wrote : (n : Negated) → negated_fits n ≡ wrote_fits (from_negated n)
negated_wrote (no_atom t) = refl
negated_wrote (no_equation t u) = refl
negated_wrote (in_parens n) = negated_wrote n

pub simple_wrote : (s : Simple) → simple_fits s ≡ wrote_fits (from_simple s)
simple_wrote (atom t) = refl
simple_wrote (equation t u) = refl
simple_wrote (unequal t u) = refl
simple_wrote (negated n) = negated_wrote n

-- ---- what is found among the tokens without marks

feature_step : (x : Tok) (o p : Option (List ℕ)) (xs : List Tok) (b : Bool) → is_punctuation x.kind ≡ b → o ≡ p → first_feature xs ≡ o → first_feature (cond b xs (x ∷ xs)) ≡ cond (is_feature x.kind) (Some x.text) p
feature_step x o p xs true e h k = rw (punctuation_is x.kind e) (k ∙ h)
feature_step x o p xs false e h k = ap (λ r. cond (is_feature x.kind) (Some x.text) r) (k ∙ h)

pub feature_plain : (ts : List Tok) → first_feature (plain ts) ≡ first_feature ts
feature_plain [] = refl
feature_plain (t ∷ ts) = feature_step t (first_feature ts) (first_feature ts) (plain ts) (is_punctuation t.kind) refl refl (feature_plain ts)

names_step : (x : Tok) (all : List (List ℕ)) (xs : List Tok) (b : Bool) → is_punctuation x.kind ≡ b → variable_names xs ≡ all → variable_names (cond b xs (x ∷ xs)) ≡ cond (is_variable_kind x.kind) (x.text ∷ all) all
names_step x all xs true e h = rw (punctuation_is x.kind e) h
names_step x all xs false e h = ap (λ l. cond (is_variable_kind x.kind) (x.text ∷ l) l) h

pub names_plain : (ts : List Tok) → variable_names (plain ts) ≡ variable_names ts
names_plain [] = refl
names_plain (t ∷ ts) = names_step t (variable_names ts) (plain ts) (is_punctuation t.kind) refl (names_plain ts)

-- the tokens of a literal, where others follow
pub literal_tokens : (s : Simple) (front rest : List Tok) → front ++ rest ≡ simple_text s rest → simple_fits s ≡ true → plain front ≡ all_tokens (from_simple s)
literal_tokens s front rest e fits = append_cancel_right (plain front) (all_tokens (from_simple s)) (plain rest) (sym (plain_append front rest) ∙ ap plain e ∙ plain_simple s rest fits)

pub literal_feature : (s : Simple) (front rest : List Tok) → front ++ rest ≡ simple_text s rest → simple_fits s ≡ true → first_feature front ≡ first_feature (all_tokens (from_simple s))
literal_feature s front rest e fits = sym (feature_plain front) ∙ ap first_feature (literal_tokens s front rest e fits)

-- ---- disjunctions

abbrev pub all_of : List Wrote → List Tok
all_of ws = flat_map all_tokens ws

pub all_append : (ws vs : List Wrote) → all_of (ws ++ vs) ≡ all_of ws ++ all_of vs
all_append [] vs = refl
all_append (w ∷ ws) vs = ap (λ l. all_tokens w ++ l) (all_append ws vs) ∙ sym (append_assoc (all_tokens w) (all_of ws) (all_of vs))

mutual
  pub plain_item : (i : Item) (rest : List Tok) → item_fits i ≡ true → plain (item i rest) ≡ all_of (from_item i) ++ plain rest
  plain_item (simple s) rest fits = plain_simple s rest fits ∙ ap (λ l. l ++ plain rest) (sym (append-nil (all_tokens (from_simple s))))
  plain_item (nested i is) rest fits =
      let f = both_true (item_fits i) (items_fit is) fits in
      plain_item i (items is (mark 41 ∷ rest)) f.0 ∙ ap (λ l. all_of (from_item i) ++ l) (plain_items is (mark 41 ∷ rest) f.1)
      ∙ sym (append_assoc (all_of (from_item i)) (all_of (from_items is)) (plain rest)) ∙ ap (λ l. l ++ plain rest) (sym (all_append (from_item i) (from_items is)))

  pub plain_items : (is : Items) (rest : List Tok) → items_fit is ≡ true → plain (items is rest) ≡ all_of (from_items is) ++ plain rest
  plain_items last rest fits = refl
  plain_items (or i is) rest fits =
      let f = both_true (item_fits i) (items_fit is) fits in
      plain_item i (items is rest) f.0 ∙ ap (λ l. all_of (from_item i) ++ l) (plain_items is rest f.1)
      ∙ sym (append_assoc (all_of (from_item i)) (all_of (from_items is)) (plain rest)) ∙ ap (λ l. l ++ plain rest) (sym (all_append (from_item i) (from_items is)))
