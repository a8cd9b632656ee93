-- What is found at the front of a text is spelled as its kind is.
use Rattle.std.proofs.Common.{◌≡◌, ℕ, ◌+◌, ◌<◌, Bool, true, false, List, [], ◌∷◌, ◌++◌, length, Option, Some, None, refl, sym, ap, ◌∙◌, arith, append_assoc, length-append}
use Rattle.std.specs.Prelude.{◌||◌, ◌==◌, if◌then◌else◌}
use Rattle.std.specs.Option.{option_map_or}
use Rattle.std.specs.Char.{is_ascii_digit, is_ascii_lowercase, is_ascii_uppercase}
use Rattle.std.proofs.lemmas.Bool.{eqb-true, eqb-false, cond_both}
use Rattle.std.proofs.lemmas.Bool.Decides.{nat_tests}
use Rattle.tptp_read.specs.declared.kind.TokenKind.{TokenKind}
use Rattle.tptp_read.specs.declared.kind.TokenKind.TheVariants.{LowerWord, Variable, DollarWord, QuotedWord, DistinctObject, Punctuation}
use Rattle.tptp_read.specs.Bytes.{is_word_byte, is_sign, is_mark, run, closing}
use Rattle.tptp_read.specs.Scan.{begins, dollar_at, quoted_at, distinct_at, token_at}
use Rattle.tptp_read.specs.Table.{IsLowerWord, IsToken, a_lower, a_variable, a_dollar, a_double, a_quoted, a_distinct, a_mark, unequal}
use Rattle.tptp_read.proofs.TokenFronts.{Front, and_true, AllPass, run_front}
use Rattle.tptp_read.proofs.Closings.{Closed, IsClosed, closing_front}
use Rattle.tptp_read.proofs.DigitRuns.{IsScanned, number_front}

word_front : (k : TokenKind) (b : ℕ) (bs : List ℕ) → ((ts : List ℕ) → AllPass is_word_byte ts → IsToken k (b ∷ ts)) → Front (IsToken k) (run is_word_byte bs + 1) (b ∷ bs)
word_front k b bs make =
    let h = run_front is_word_byte bs in
    record { front = b ∷ h.front; rest = h.rest; whole = ap (λ (xs : List ℕ). b ∷ xs) h.whole; len = omega (arith, h.len); is = make h.front h.is }

-- a lower word behind one or two dollar signs
lower_front : (b : ℕ) (bs : List ℕ) → is_ascii_lowercase b ≡ true → Front IsLowerWord (run is_word_byte (b ∷ bs)) (b ∷ bs)
lower_front b bs lower =
    let h = run_front is_word_byte bs in
    let word : is_word_byte b ≡ true = grind (arith, nat_tests) in
    record { front = b ∷ h.front; rest = h.rest; whole = ap (λ (xs : List ℕ). b ∷ xs) h.whole; len = rw word (omega (arith, h.len)); is = and_true _ _ lower h.is }

lower_begins : (bs : List ℕ) → begins is_ascii_lowercase bs ≡ true → Front IsLowerWord (run is_word_byte bs) bs
lower_begins [] e = absurd cc
lower_begins (b ∷ bs) e = lower_front b bs e

one_dollar : (bs : List ℕ) (n : ℕ) → Front IsLowerWord n bs → Front (IsToken DollarWord) (0 + n + 1) (36 ∷ bs)
one_dollar bs n h = record { front = 36 ∷ h.front; rest = h.rest; whole = ap (λ (xs : List ℕ). 36 ∷ xs) h.whole; len = omega (arith, h.len); is = a_dollar h.front h.is }

two_dollars : (bs : List ℕ) (n : ℕ) → Front IsLowerWord n bs → Front (IsToken DollarWord) (1 + n + 1) (36 ∷ 36 ∷ bs)
two_dollars bs n h = record { front = 36 ∷ 36 ∷ h.front; rest = h.rest; whole = ap (λ (xs : List ℕ). 36 ∷ 36 ∷ xs) h.whole; len = omega (arith, h.len); is = a_double h.front h.is }

dollar_cases : (b : ℕ) (bs : List ℕ) (t : Bool) → (b == 36) ≡ t → IsScanned (36 ∷ b ∷ bs) (dollar_at (b ∷ bs))
unfolding dollar_at
dollar_cases b bs true e =
    let byte = eqb-true b 36 e in
    rw byte (cond_both (begins is_ascii_lowercase bs) (Some (DollarWord, 1 + run is_word_byte bs + 1)) None (IsScanned (36 ∷ 36 ∷ bs))
    (λ lower. two_dollars bs (run is_word_byte bs) (lower_begins bs lower)) (λ other. tt))
dollar_cases b bs false e =
    rw e (cond_both (is_ascii_lowercase b) (Some (DollarWord, 0 + run is_word_byte (b ∷ bs) + 1)) None (IsScanned (36 ∷ b ∷ bs))
    (λ lower. one_dollar (b ∷ bs) (run is_word_byte (b ∷ bs)) (lower_front b bs lower)) (λ other. tt))

dollar_nothing : IsScanned (36 ∷ []) (dollar_at [])
unfolding dollar_at
dollar_nothing = tt

dollar_front : (bs : List ℕ) → IsScanned (36 ∷ bs) (dollar_at bs)
dollar_front [] = dollar_nothing
dollar_front (b ∷ bs) = dollar_cases b bs (b == 36) refl

-- quotes
between : (k : TokenKind) (mark : ℕ) (bs : List ℕ) (n : ℕ) → (h : Closed mark false bs n) → IsToken k (mark ∷ h.items ++ mark ∷ []) → Front (IsToken k) (n + 1) (mark ∷ bs)
between k mark bs n h is = record {
  front = mark ∷ h.items ++ mark ∷ [];
  rest = h.rest;
  whole = ap (λ (xs : List ℕ). mark ∷ xs) (h.whole ∙ sym (append_assoc h.items (mark ∷ []) h.rest));
  len = omega (arith, length-append h.items (mark ∷ []), h.len);
  is = is;
}

quoted_cases : (bs : List ℕ) (o : Option ℕ) → IsClosed 39 false bs o → IsScanned (39 ∷ bs) (option_map_or (λ n. if n == 1 then None else Some (QuotedWord, n + 1)) o None)
quoted_cases bs None h = tt
quoted_cases bs (Some n) h =
    cond_both (n == 1) None (Some (QuotedWord, n + 1)) (IsScanned (39 ∷ bs)) (λ none. tt)
    (λ some. let apart = eqb-false n 1 some in between QuotedWord 39 bs n h (a_quoted h.items _ (refl, h.are) (more_than h.items n h.len apart)))
  where
    more_than : (items : List ℕ) (n : ℕ) → length items + 1 ≡ n → (n ≡ 1 → ⊥) → 0 < length items
    more_than items n e apart = omega arith

quoted_front : (bs : List ℕ) → IsScanned (39 ∷ bs) (quoted_at bs)
unfolding quoted_at
quoted_front bs = quoted_cases bs (closing 39 false bs) (closing_front 39 false bs)

distinct_cases : (bs : List ℕ) (o : Option ℕ) → IsClosed 34 false bs o → IsScanned (34 ∷ bs) (option_map_or (λ n. Some (DistinctObject, n + 1)) o None)
distinct_cases bs None h = tt
distinct_cases bs (Some n) h = between DistinctObject 34 bs n h (a_distinct h.items _ (refl, h.are))

distinct_front : (bs : List ℕ) → IsScanned (34 ∷ bs) (distinct_at bs)
unfolding distinct_at
distinct_front bs = distinct_cases bs (closing 34 false bs) (closing_front 34 false bs)

-- marks
mark_front : (b : ℕ) (bs : List ℕ) → is_mark b ≡ true → Front (IsToken Punctuation) 1 (b ∷ bs)
mark_front b bs e = record { front = b ∷ []; rest = bs; whole = refl; len = refl; is = a_mark b e }

unequal_front : (bs : List ℕ) → begins (λ c. c == 61) bs ≡ true → Front (IsToken Punctuation) 2 (33 ∷ bs)
unequal_front [] e = absurd cc
unequal_front (b ∷ bs) e = rw (eqb-true b 61 e) (record { front = 33 ∷ 61 ∷ []; rest = bs; whole = refl; len = refl; is = unequal })

at_byte : (b m : ℕ) (bs : List ℕ) (o : Option (TokenKind × ℕ)) → (b == m) ≡ true → IsScanned (m ∷ bs) o → IsScanned (b ∷ bs) o
at_byte b m bs o e h = rw (eqb-true b m e) h

pub token_front : (bs : List ℕ) → IsScanned bs (token_at bs)
unfolding token_at
token_front [] = tt
token_front (b ∷ bs) =
    cond_both (is_ascii_lowercase b) _ _ (IsScanned (b ∷ bs)) (λ lower. word_front LowerWord b bs (λ ts h. a_lower (b ∷ ts) (and_true _ _ lower h)))
    (λ _. cond_both (is_ascii_uppercase b) _ _ (IsScanned (b ∷ bs)) (λ upper. word_front Variable b bs (λ ts h. a_variable (b ∷ ts) (and_true _ _ upper h)))
    (λ _. cond_both (b == 36) _ _ (IsScanned (b ∷ bs)) (λ e. at_byte b 36 bs (dollar_at bs) e (dollar_front bs))
    (λ _. cond_both (b == 39) _ _ (IsScanned (b ∷ bs)) (λ e. at_byte b 39 bs (quoted_at bs) e (quoted_front bs))
    (λ _. cond_both (b == 34) _ _ (IsScanned (b ∷ bs)) (λ e. at_byte b 34 bs (distinct_at bs) e (distinct_front bs))
    (λ _. cond_both (is_sign b || is_ascii_digit b) _ _ (IsScanned (b ∷ bs)) (λ _. number_front (b ∷ bs))
    (λ _. cond_both (b == 33) _ _ (IsScanned (b ∷ bs)) (λ e. at_byte b 33 bs _ e
    (cond_both (begins (λ c. c == 61) bs) (Some (Punctuation, 2)) None (IsScanned (33 ∷ bs)) (λ h. unequal_front bs h) (λ _. tt)))
    (λ _. cond_both (is_mark b) _ _ (IsScanned (b ∷ bs)) (λ e. mark_front b bs e) (λ _. tt))))))))
