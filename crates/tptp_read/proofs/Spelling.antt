-- What is spelled as a name's token has a name that can be printed and read again.
use Rattle.std.proofs.Common.{◌≡◌, ℕ, ◌<◌, Bool, true, false, cond, List, [], ◌∷◌, ◌++◌, length, take, drop, refl, sym, ap, subst, ◌∙◌, arith, length-append}
use Rattle.std.specs.Prelude.{not, ◌&&◌, ◌||◌, ◌==◌}
use Rattle.std.specs.List.{list_all}
use Rattle.std.specs.Char.{is_ascii_digit, is_ascii_lowercase}
use Rattle.std.proofs.lemmas.Bool.Decides.{nat_tests}
use Rattle.std.proofs.lemmas.List.Folds.{list_all-append}
use Rattle.std.proofs.Math.Seq.{take-append_seam}
use Rattle.inst_logic.specs.Printing.{is_between, is_readable_name}
use Rattle.tptp_read.specs.declared.kind.TokenKind.{TokenKind}
use Rattle.tptp_read.specs.Bytes.{is_word_byte, is_sign, is_printed}
use Rattle.tptp_read.specs.Table.{are_items, IsBetween, IsOptionalSign, IsInteger, IsLowerWord, IsToken, a_lower, a_variable, a_dollar, a_double, a_quoted, a_distinct, an_integer, a_rational, a_fraction, an_exponent, a_real, a_mark, unequal}
use Rattle.tptp_read.specs.Stream.{Tok, IsNext}
use Rattle.tptp_read.specs.Lexemes.{Begins, is_name_kind}
use Rattle.tptp_read.specs.Meaning.{unquoted, name_of}
use Rattle.tptp_read.proofs.ParseLaws.{both_true, and_both}
use Rattle.inst_logic.proofs.Booleans.{not_true}

abbrev printed : ℕ → Bool
printed b = is_between 32 126 b

lower_byte : (b : ℕ) → is_ascii_lowercase b ≡ true → printed b ≡ true
lower_byte b e = grind (arith, nat_tests)

word_byte : (b : ℕ) → is_word_byte b ≡ true → printed b ≡ true
word_byte b e = grind (arith, nat_tests)

digit_byte : (b : ℕ) → is_ascii_digit b ≡ true → printed b ≡ true
digit_byte b e = grind (arith, nat_tests)

sign_byte : (b : ℕ) → is_sign b ≡ true → printed b ≡ true
sign_byte b e = grind (arith, nat_tests)

escaped_byte : (b : ℕ) → (b == 39 || b == 92) ≡ true → printed b ≡ true
escaped_byte b e = grind (arith, nat_tests)

all_so : (p q : ℕ → Bool) → ((b : ℕ) → p b ≡ true → q b ≡ true) → (bs : List ℕ) → list_all p bs ≡ true → list_all q bs ≡ true
all_so p q f [] h = refl
all_so p q f (b ∷ bs) h = let both = both_true (p b) (list_all p bs) h in and_both (q b) (list_all q bs) (f b both.0) (all_so p q f bs both.1)

is_name : (bs : List ℕ) → (bs ≡ [] → ⊥) → list_all printed bs ≡ true → is_readable_name bs ≡ true
is_name [] some h = absurd (some refl)
is_name (b ∷ bs) some h = h

lower_name : (text : List ℕ) → IsLowerWord text → is_readable_name text ≡ true
lower_name [] h = absurd h
lower_name (b ∷ bs) h =
    let both = both_true (is_ascii_lowercase b) (list_all is_word_byte bs) h in
    and_both (printed b) (list_all printed bs) (lower_byte b both.0) (all_so is_word_byte printed word_byte bs both.1)

-- ---- quoted words

kept : (e : Bool) (b : ℕ) (r : List ℕ) → printed b ≡ true → list_all printed (unquoted e r) ≡ true → list_all printed (cond e (unquoted true r) (b ∷ unquoted false r)) ≡ true
kept true b r p h = h
kept false b r p h = and_both (printed b) (list_all printed (unquoted false r)) p h

items_printed : (e : Bool) (items : List ℕ) → are_items 39 e items ≡ true → list_all printed (unquoted e (items ++ 39 ∷ [])) ≡ true
items_printed true [] h = absurd cc
items_printed false [] h = refl
items_printed true (b ∷ bs) h =
    let both = both_true (b == 39 || b == 92) (are_items 39 false bs) h in
    and_both (printed b) (list_all printed (unquoted false (bs ++ 39 ∷ []))) (escaped_byte b both.0) (items_printed false bs both.1)
items_printed false (b ∷ bs) h =
    let a = both_true (is_printed b) (not (b == 39) && are_items 39 (b == 92) bs) h in
    let c = both_true (not (b == 39)) (are_items 39 (b == 92) bs) a.1 in
    let no = not_true (b == 39) c.0 in
    rw no (kept (b == 92) b (bs ++ 39 ∷ []) a.0 (items_printed (b == 92) bs c.1))

not_empty : (e : Bool) (b : ℕ) (bs : List ℕ) → are_items 39 e bs ≡ true → cond e (unquoted true (bs ++ 39 ∷ [])) (b ∷ unquoted false (bs ++ 39 ∷ [])) ≡ [] → ⊥
not_empty false b bs h k = cc
not_empty true b [] h k = cc
not_empty true b (c ∷ cs) h k = cc

some_content : (items : List ℕ) → 0 < length items → are_items 39 false items ≡ true → unquoted false (items ++ 39 ∷ []) ≡ [] → ⊥
some_content [] some h k = absurd (omega arith)
some_content (b ∷ bs) some h k =
    let a = both_true (is_printed b) (not (b == 39) && are_items 39 (b == 92) bs) h in
    let c = both_true (not (b == 39)) (are_items 39 (b == 92) bs) a.1 in
    let no = not_true (b == 39) c.0 in
    not_empty (b == 92) b bs c.1 (sym (rw no refl) ∙ k)

quoted_name : (items text : List ℕ) → IsBetween 39 items text → 0 < length items → is_readable_name (unquoted false (drop 1 text)) ≡ true
quoted_name items text h some =
    ap (λ x. is_readable_name (unquoted false (drop 1 x))) h.0 ∙ is_name (unquoted false (items ++ 39 ∷ [])) (some_content items some h.1) (items_printed false items h.1)

-- ---- integers

sign_printed : (s : List ℕ) → IsOptionalSign s → list_all printed s ≡ true
sign_printed [] h = refl
sign_printed (b ∷ []) h = and_both (printed b) true (sign_byte b h) refl
sign_printed (b ∷ c ∷ bs) h = absurd h

some_digits : (s ds : List ℕ) → 0 < length ds → s ++ ds ≡ [] → ⊥
some_digits s ds some e = omega (arith, length-append s ds, ap length e)

integer_name : (text : List ℕ) → IsInteger text → is_readable_name text ≡ true
integer_name text h =
    let digits = all_so is_ascii_digit printed digit_byte h.1 h.4.1 in
    let all = list_all-append printed h.0 h.1 ∙ and_both (list_all printed h.0) (list_all printed h.1) (sign_printed h.0 h.3) digits in
    ap is_readable_name h.2 ∙ is_name (h.0 ++ h.1) (some_digits h.0 h.1 h.4.0) all

-- ---- tokens

-- a token whose name can be read again, where it may stand as a name
abbrev pub is_good : Tok → Bool
is_good t = not (is_name_kind t.kind) || is_readable_name (name_of t)

spelled_good : (k : TokenKind) (text : List ℕ) → IsToken k text → is_good (record { kind = k; text = text }) ≡ true
spelled_good k text (a_lower t h) = lower_name t h
spelled_good k text (a_variable t h) = refl
spelled_good k text (a_dollar t h) = refl
spelled_good k text (a_double t h) = refl
spelled_good k text (a_quoted items t h some) = quoted_name items t h some
spelled_good k text (a_distinct items t h) = refl
spelled_good k text (an_integer t h) = integer_name t h
spelled_good k text (a_rational n d h i) = refl
spelled_good k text (a_fraction n f h i) = refl
spelled_good k text (an_exponent n x h i) = refl
spelled_good k text (a_real n f x h i j) = refl
spelled_good k text (a_mark b h) = refl
spelled_good k text unequal = refl

next_good : (text : List ℕ) (t : Tok) (after : List ℕ) → IsNext text t after → is_good t ≡ true
next_good text t after h =
    let front : take (length t.text) h.rest ≡ t.text = ap (take (length t.text)) h.spelled ∙ take-append_seam t.text after in
    spelled_good t.kind t.text (subst (λ (x : List ℕ). IsToken t.kind x) front h.longest.spelled)

pub begins_good : (ts : List Tok) (text rest : List ℕ) → Begins text ts rest → list_all is_good ts ≡ true
begins_good [] text rest b = refl
begins_good (t ∷ ts) text rest b = and_both (is_good t) (list_all is_good ts) (next_good text t b.0 b.1) (begins_good ts b.0 rest b.2)
