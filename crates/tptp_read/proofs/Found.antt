-- What is spelled as a token is found at the front of a text, or a longer token is.
use Rattle.std.proofs.Common.{◌≡◌, ℕ, suc, ◌+◌, ◌<◌, ◌≤◌, Bool, true, false, ◌⊎◌, inl, inr, List, [], ◌∷◌, ◌++◌, length, drop, Option, Some, None, refl, sym, ap, subst, ◌∙◌, arith, append_assoc, length-append}
use Rattle.std.specs.Prelude.{◌||◌, ◌==◌, IsTrue}
use Rattle.std.specs.List.{list_all}
use Rattle.std.specs.Char.{is_ascii_digit, is_ascii_lowercase, is_ascii_uppercase}
use Rattle.std.proofs.lemmas.Bool.{eqb-true, eqb-false, eq-eqb, ne_eqb, cond_both, or_cases, or_left, or_right}
use Rattle.std.proofs.lemmas.Bool.Decides.{nat_tests}
use Rattle.std.proofs.lemmas.List.{drop_at, drop-drop}
use Rattle.tptp_read.specs.declared.kind.TokenKind.{TokenKind}
use Rattle.tptp_read.specs.declared.kind.TokenKind.TheVariants.{LowerWord, Variable, DollarWord, QuotedWord, DistinctObject, Integer, Rational, Real, Punctuation}
use Rattle.tptp_read.specs.Bytes.{is_word_byte, is_sign, is_mark, run}
use Rattle.tptp_read.specs.Scan.{begins, optional, digits_after, exponent, number_at, dollar_at, quoted_at, distinct_at, token_at}
use Rattle.tptp_read.specs.Table.{are_items, AreDigits, IsOptionalSign, IsInteger, IsLowerWord, IsUpperWord, IsToken, a_lower, a_variable, a_dollar, a_double, a_quoted, a_distinct, an_integer, a_rational, a_fraction, an_exponent, a_real, a_mark, unequal}
use Rattle.tptp_read.proofs.TokenFronts.{both_true, run_more, run_none}
use Rattle.tptp_read.proofs.Closings.{closing_found}
use Rattle.tptp_read.proofs.DigitRuns.{Reaches, number_of, number_parts}

-- where a token of this length and kind was found
reached : (k : TokenKind) (n m : ℕ) → n ≤ m → Reaches k n (Some (k, m))
reached k n m le = (le, λ _. refl)

-- words
upper_not_lower : (b : ℕ) → is_ascii_uppercase b ≡ true → is_ascii_lowercase b ≡ false
upper_not_lower b e = grind (arith, nat_tests)

lower_found : (text rest : List ℕ) → IsLowerWord text → Reaches LowerWord (length text) (token_at (text ++ rest))
unfolding token_at
lower_found [] rest h = absurd h
lower_found (b ∷ bs) rest h =
    let both = both_true (is_ascii_lowercase b) (list_all is_word_byte bs) h in
    let more = run_more is_word_byte bs rest both.1 in
    rw both.0 (reached LowerWord _ _ (omega (arith, more)))

upper_found : (text rest : List ℕ) → IsUpperWord text → Reaches Variable (length text) (token_at (text ++ rest))
unfolding token_at
upper_found [] rest h = absurd h
upper_found (b ∷ bs) rest h =
    let both = both_true (is_ascii_uppercase b) (list_all is_word_byte bs) h in
    let more = run_more is_word_byte bs rest both.1 in
    rw (upper_not_lower b both.0, both.0) (reached Variable _ _ (omega (arith, more)))

no_dollar : (b : ℕ) → is_ascii_lowercase b ≡ true → (b == 36) ≡ false
no_dollar b e = grind (arith, nat_tests)

lower_is_word : (b : ℕ) → is_ascii_lowercase b ≡ true → is_word_byte b ≡ true
lower_is_word b e = grind (arith, nat_tests)

lower_run : (b : ℕ) (bs rest : List ℕ) → IsLowerWord (b ∷ bs) → length (b ∷ bs) ≤ run is_word_byte ((b ∷ bs) ++ rest)
lower_run b bs rest h =
    let both = both_true (is_ascii_lowercase b) (list_all is_word_byte bs) h in
    let more = run_more is_word_byte bs rest both.1 in
    rw (lower_is_word b both.0) (omega (arith, more))

lower_begins : (b : ℕ) (bs rest : List ℕ) → IsLowerWord (b ∷ bs) → begins is_ascii_lowercase ((b ∷ bs) ++ rest) ≡ true
lower_begins b bs rest h = (both_true (is_ascii_lowercase b) (list_all is_word_byte bs) h).0

one_dollar : (bs : List ℕ) → optional (λ b. b == 36) bs ≡ 0 → begins is_ascii_lowercase bs ≡ true → dollar_at bs ≡ Some (DollarWord, 0 + run is_word_byte bs + 1)
unfolding dollar_at
one_dollar bs none lower = rw (none, lower) refl

two_dollars : (bs : List ℕ) → begins is_ascii_lowercase bs ≡ true → dollar_at (36 ∷ bs) ≡ Some (DollarWord, 1 + run is_word_byte bs + 1)
unfolding dollar_at
two_dollars bs lower = rw lower refl

dollar_found : (text rest : List ℕ) → IsLowerWord text → Reaches DollarWord (length text + 1) (dollar_at (text ++ rest))
dollar_found [] rest h = absurd h
dollar_found (b ∷ bs) rest h =
    let first = lower_begins b bs rest h in
    let none : optional (λ c. c == 36) ((b ∷ bs) ++ rest) ≡ 0 = rw (no_dollar b first) refl in
    let long = lower_run b bs rest h in
    subst (Reaches DollarWord (length (b ∷ bs) + 1)) (sym (one_dollar ((b ∷ bs) ++ rest) none first)) (reached DollarWord _ _ (omega (arith, long)))

double_found : (text rest : List ℕ) → IsLowerWord text → Reaches DollarWord (length text + 2) (dollar_at (36 ∷ text ++ rest))
double_found [] rest h = absurd h
double_found (b ∷ bs) rest h =
    let first = lower_begins b bs rest h in
    let long = lower_run b bs rest h in
    subst (Reaches DollarWord (length (b ∷ bs) + 2)) (sym (two_dollars ((b ∷ bs) ++ rest) first)) (reached DollarWord _ _ (omega (arith, long)))

at_dollar : (bs : List ℕ) → token_at (36 ∷ bs) ≡ dollar_at bs
unfolding token_at
at_dollar bs = refl

-- quotes
quoted_found : (items rest : List ℕ) → IsTrue (are_items 39 false items) → 0 < length items → Reaches QuotedWord (length items + 2) (token_at (39 ∷ items ++ 39 ∷ rest))
unfolding token_at quoted_at
quoted_found items rest are some =
    let h = closing_found 39 false items rest are in
    let apart : (length items + 1 == 1) ≡ false = ne_eqb _ _ (omega arith) in
    rw (h, apart) (reached QuotedWord _ _ (omega arith))

distinct_found : (items rest : List ℕ) → IsTrue (are_items 34 false items) → Reaches DistinctObject (length items + 2) (token_at (34 ∷ items ++ 34 ∷ rest))
unfolding token_at distinct_at
distinct_found items rest are =
    let h = closing_found 34 false items rest are in
    rw h (reached DistinctObject _ _ (omega arith))

-- numbers
digit_no_sign : (b : ℕ) → is_ascii_digit b ≡ true → is_sign b ≡ false
digit_no_sign b e = grind (arith, nat_tests)

sign_len : (sign digits tail : List ℕ) → IsOptionalSign sign → AreDigits digits → optional is_sign (sign ++ (digits ++ tail)) ≡ length sign
sign_len [] [] tail h d = absurd (omega (arith, d.0))
sign_len [] (b ∷ bs) tail h d = rw (digit_no_sign b (both_true (is_ascii_digit b) (list_all is_ascii_digit bs) d.1).0) refl
sign_len (b ∷ []) digits tail h d = rw h refl
sign_len (b ∷ c ∷ bs) digits tail h d = absurd h

-- the digits that follow are part of the whole number
abbrev number_tail : ℕ → ℕ → List ℕ → Option (TokenKind × ℕ)
number_tail s n after = number_of s n (digits_after 47 after) (digits_after 46 after) (exponent (drop (digits_after 46 after) after))

number_whole : (sign digits tail : List ℕ) → IsOptionalSign sign → AreDigits digits → number_at (sign ++ (digits ++ tail)) ≡ number_tail (length sign) (length digits + run is_ascii_digit tail) (drop (run is_ascii_digit tail) tail)
number_whole sign digits tail h d =
    let bs = sign ++ (digits ++ tail) in
    let n = length digits + run is_ascii_digit tail in
    let at : drop (length sign) bs ≡ digits ++ tail = drop_at sign (digits ++ tail) (length sign) refl in
    let at_tail : drop (length digits) (digits ++ tail) ≡ tail = drop_at digits tail (length digits) refl in
    let whole : run is_ascii_digit (drop (length sign) bs) ≡ n = ap (run is_ascii_digit) at ∙ run_more is_ascii_digit digits tail d.1 in
    let r = run is_ascii_digit tail in
    let after : drop (length sign + n) bs ≡ drop r tail =
    sym (drop-drop n (length sign) bs) ∙ (ap (λ (xs : List ℕ). drop n xs) at ∙ (sym (drop-drop r (length digits) (digits ++ tail)) ∙ ap (λ (xs : List ℕ). drop r xs) at_tail)) in
    number_parts bs (length sign) n (drop r tail) (sign_len sign digits tail h d) whole after

number_ended : (sign digits tail : List ℕ) → IsOptionalSign sign → AreDigits digits → run is_ascii_digit tail ≡ 0 → number_at (sign ++ (digits ++ tail)) ≡ number_tail (length sign) (length digits) tail
number_ended sign digits tail h d none =
    let whole = number_whole sign digits tail h d in
    let same : length digits + 0 ≡ length digits = omega arith in
    whole ∙ rw (none, same) refl

integer_reached : (l s n q f x : ℕ) → l ≤ s + n → 0 < n → Reaches Integer l (number_of s n q f x)
integer_reached l s n q f x le some =
    cond_both (n == 0) None _ (Reaches Integer l) (λ e. let h = eqb-true n 0 e in omega arith)
    (λ _. cond_both (q == 0) _ _ (Reaches Integer l)
    (λ _. cond_both (f + x == 0) _ _ (Reaches Integer l) (λ _. reached Integer _ _ le)
    (λ e. let h = eqb-false (f + x) 0 e in (omega arith, λ same. absurd (omega arith))))
    (λ e. let h = eqb-false q 0 e in (omega arith, λ same. absurd (omega arith))))

integer_found : (text rest : List ℕ) → IsInteger text → Reaches Integer (length text) (number_at (text ++ rest))
integer_found text rest i =
    let sign = i.0 in
    let digits = i.1 in
    let r = run is_ascii_digit rest in
    let after = drop r rest in
    let d : AreDigits digits = i.4 in
    let some = d.0 in
    let at : text ++ rest ≡ sign ++ (digits ++ rest) = ap (λ (xs : List ℕ). xs ++ rest) i.2 ∙ append_assoc sign digits rest in
    let long : length text ≡ length sign + length digits = ap length i.2 ∙ length-append sign digits in
    rw (at, number_whole sign digits rest i.3 d) (integer_reached (length text) (length sign) (length digits + r) (digits_after 47 after) (digits_after 46 after) (exponent (drop (digits_after 46 after) after)) (omega arith) (omega arith))

-- a number whose whole part has ended
ended : (n tail : List ℕ) → (i : IsInteger n) → run is_ascii_digit tail ≡ 0 → number_at (n ++ tail) ≡ number_tail (length i.0) (length i.1) tail
ended n tail i none =
    let at : n ++ tail ≡ i.0 ++ (i.1 ++ tail) = ap (λ (xs : List ℕ). xs ++ tail) i.2 ∙ append_assoc i.0 i.1 tail in
    ap number_at at ∙ number_ended i.0 i.1 tail i.3 i.4 none

whole_len : (n : List ℕ) → (i : IsInteger n) → length n ≡ length i.0 + length i.1
whole_len n i = ap length i.2 ∙ length-append i.0 i.1

-- digits behind a mark
marked : (mark : ℕ) (ds rest : List ℕ) → AreDigits ds → digits_after mark (mark ∷ ds ++ rest) ≡ length ds + run is_ascii_digit rest + 1
marked mark ds rest d =
    let n = run_more is_ascii_digit ds rest d.1 in
    let some = d.0 in
    let apart : (length ds + run is_ascii_digit rest == 0) ≡ false = ne_eqb _ _ (omega arith) in
    rw (eq-eqb mark mark refl, n, apart) refl

unmarked : (mark b : ℕ) (bs : List ℕ) → (b == mark) ≡ false → digits_after mark (b ∷ bs) ≡ 0
unmarked mark b bs e = rw e refl

exponent_found : (e : ℕ) (n rest : List ℕ) → IsTrue (e == 69 || e == 101) → (i : IsInteger n) → (m : ℕ) × (exponent (e ∷ n ++ rest) ≡ m) × (length n < m)
exponent_found e n rest h i =
    let sign = i.0 in
    let digits = i.1 in
    let d : AreDigits digits = i.4 in
    let some = d.0 in
    let r = run is_ascii_digit rest in
    let at : n ++ rest ≡ sign ++ (digits ++ rest) = ap (λ (xs : List ℕ). xs ++ rest) i.2 ∙ append_assoc sign digits rest in
    let s : optional is_sign (n ++ rest) ≡ length sign = ap (optional is_sign) at ∙ sign_len sign digits rest i.3 d in
    let behind : drop (length sign) (n ++ rest) ≡ digits ++ rest = ap (λ (xs : List ℕ). drop (length sign) xs) at ∙ drop_at sign (digits ++ rest) (length sign) refl in
    let whole : run is_ascii_digit (drop (length sign) (n ++ rest)) ≡ length digits + r = ap (run is_ascii_digit) behind ∙ run_more is_ascii_digit digits rest d.1 in
    let apart : (length digits + r == 0) ≡ false = ne_eqb _ _ (omega arith) in
    (length sign + (length digits + r) + 1, rw (h, s, whole, apart) refl, omega (arith, whole_len n i))

exponent_mark : (e : ℕ) → IsTrue (e == 69 || e == 101) → ((e == 47) ≡ false) × ((e == 46) ≡ false) × (is_ascii_digit e ≡ false)
exponent_mark e h = (grind (arith, nat_tests), grind (arith, nat_tests), grind (arith, nat_tests))

rational_reached : (l s n q f x : ℕ) → l ≤ s + n + q → 0 < n → 0 < q → Reaches Rational l (number_of s n q f x)
rational_reached l s n q f x le some quotient =
    let no_whole : (n == 0) ≡ false = ne_eqb _ _ (omega arith) in
    let no_quotient : (q == 0) ≡ false = ne_eqb _ _ (omega arith) in
    rw (no_whole, no_quotient) (reached Rational _ _ le)

real_reached : (l s n f x : ℕ) → l ≤ s + n + (f + x) → 0 < n → 0 < f + x → Reaches Real l (number_of s n 0 f x)
real_reached l s n f x le some part =
    let no_whole : (n == 0) ≡ false = ne_eqb _ _ (omega arith) in
    let no_part : (f + x == 0) ≡ false = ne_eqb _ _ (omega arith) in
    rw (no_whole, no_part) (reached Real _ _ le)

rational_found : (n d rest : List ℕ) → IsInteger n → AreDigits d → Reaches Rational (length (n ++ 47 ∷ d)) (number_at (n ++ (47 ∷ d ++ rest)))
rational_found n d rest i ds =
    let tail = 47 ∷ d ++ rest in
    let e = ended n tail i refl in
    let q = marked 47 d rest ds in
    let some = i.4 in
    rw e (rational_reached (length (n ++ 47 ∷ d)) (length i.0) (length i.1) (digits_after 47 tail) (digits_after 46 tail) (exponent (drop (digits_after 46 tail) tail)) (omega (arith, length-append n (47 ∷ d), q, whole_len n i)) (omega (arith, some.0)) (omega (arith, q)))

-- a fraction and an exponent behind an integer, either of them perhaps without a byte
fraction_found : (n ds rest : List ℕ) → IsInteger n → AreDigits ds → Reaches Real (length (n ++ 46 ∷ ds)) (number_at (n ++ (46 ∷ ds ++ rest)))
fraction_found n ds rest i d =
    let tail = 46 ∷ ds ++ rest in
    let e = ended n tail i refl in
    let f = marked 46 ds rest d in
    let some = i.4 in
    rw e (real_reached (length (n ++ 46 ∷ ds)) (length i.0) (length i.1) (digits_after 46 tail) (exponent (drop (digits_after 46 tail) tail)) (omega (arith, length-append n (46 ∷ ds), f, whole_len n i)) (omega (arith, some.0)) (omega (arith, f)))

exponent_alone : (n rest : List ℕ) (e : ℕ) (x : List ℕ) → IsInteger n → IsTrue (e == 69 || e == 101) → IsInteger x → Reaches Real (length (n ++ e ∷ x)) (number_at (n ++ (e ∷ x ++ rest)))
exponent_alone n rest e x i h j =
    let other = exponent_mark e h in
    let tail = e ∷ x ++ rest in
    let none = run_none is_ascii_digit e (x ++ rest) other.2 in
    let whole = ended n tail i none in
    let q = unmarked 47 e (x ++ rest) other.0 in
    let f = unmarked 46 e (x ++ rest) other.1 in
    let found = exponent_found e x rest h j in
    let some = i.4 in
    rw (whole, q, f, found.1) (real_reached (length (n ++ e ∷ x)) (length i.0) (length i.1) 0 found.0 (omega (arith, length-append n (e ∷ x), found.2, whole_len n i)) (omega (arith, some.0)) (omega (arith, found.2)))

real_found : (n ds rest : List ℕ) (e : ℕ) (x : List ℕ) → IsInteger n → AreDigits ds → IsTrue (e == 69 || e == 101) → IsInteger x → Reaches Real (length n + (length ds + 1) + (length x + 1)) (number_at (n ++ (46 ∷ ds ++ (e ∷ x ++ rest))))
real_found n ds rest e x i d h j =
    let other = exponent_mark e h in
    let tail = e ∷ x ++ rest in
    let whole = ended n (46 ∷ ds ++ tail) i refl in
    let none = run_none is_ascii_digit e (x ++ rest) other.2 in
    let f : digits_after 46 (46 ∷ ds ++ tail) ≡ length (46 ∷ ds) = marked 46 ds tail d ∙ omega (arith, none) in
    let behind : drop (length (46 ∷ ds)) (46 ∷ ds ++ tail) ≡ tail = drop_at (46 ∷ ds) tail (length (46 ∷ ds)) refl in
    let found = exponent_found e x rest h j in
    let some = i.4 in
    rw (whole, f, behind, found.1) (real_reached (length n + (length ds + 1) + (length x + 1)) (length i.0) (length i.1) (length (46 ∷ ds)) found.0 (omega (arith, found.2, whole_len n i)) (omega (arith, some.0)) (omega (arith, found.2)))

number_dispatch : (b : ℕ) (bs : List ℕ) → (is_sign b || is_ascii_digit b) ≡ true → token_at (b ∷ bs) ≡ number_at (b ∷ bs)
unfolding token_at
number_dispatch b bs e =
    let no_lower : is_ascii_lowercase b ≡ false = no_letter b e in
    let no_upper : is_ascii_uppercase b ≡ false = no_capital b e in
    let no_dollar : (b == 36) ≡ false = no_mark b e in
    let no_quote : (b == 39) ≡ false = no_single b e in
    let no_double : (b == 34) ≡ false = no_two b e in
    rw (no_lower, no_upper, no_dollar, no_quote, no_double, e) refl
  where
    no_letter : (b : ℕ) → (is_sign b || is_ascii_digit b) ≡ true → is_ascii_lowercase b ≡ false
    no_letter b e = grind (arith, nat_tests)

    no_capital : (b : ℕ) → (is_sign b || is_ascii_digit b) ≡ true → is_ascii_uppercase b ≡ false
    no_capital b e = grind (arith, nat_tests)

    no_mark : (b : ℕ) → (is_sign b || is_ascii_digit b) ≡ true → (b == 36) ≡ false
    no_mark b e = grind (arith, nat_tests)

    no_single : (b : ℕ) → (is_sign b || is_ascii_digit b) ≡ true → (b == 39) ≡ false
    no_single b e = grind (arith, nat_tests)

    no_two : (b : ℕ) → (is_sign b || is_ascii_digit b) ≡ true → (b == 34) ≡ false
    no_two b e = grind (arith, nat_tests)

parts_dispatch : (sign digits tail : List ℕ) → IsOptionalSign sign → AreDigits digits → token_at (sign ++ (digits ++ tail)) ≡ number_at (sign ++ (digits ++ tail))
parts_dispatch [] [] tail h d = absurd (omega (arith, d.0))
parts_dispatch [] (b ∷ bs) tail h d = number_dispatch b (bs ++ tail) (or_right (is_sign b) (is_ascii_digit b) (both_true (is_ascii_digit b) (list_all is_ascii_digit bs) d.1).0)
parts_dispatch (b ∷ []) digits tail h d = number_dispatch b (digits ++ tail) (or_left (is_sign b) (is_ascii_digit b) h)
parts_dispatch (b ∷ c ∷ bs) digits tail h d = absurd h

number_begins : (n tail : List ℕ) → IsInteger n → token_at (n ++ tail) ≡ number_at (n ++ tail)
number_begins n tail i =
    let at : n ++ tail ≡ i.0 ++ (i.1 ++ tail) = ap (λ (xs : List ℕ). xs ++ tail) i.2 ∙ append_assoc i.0 i.1 tail in
    ap token_at at ∙ (parts_dispatch i.0 i.1 tail i.3 i.4 ∙ sym (ap number_at at))

-- a number by its text and what follows it
as_number : (k : TokenKind) (l : ℕ) (n tail bs : List ℕ) → IsInteger n → bs ≡ n ++ tail → Reaches k l (number_at (n ++ tail)) → Reaches k l (token_at bs)
as_number k l n tail bs i e h = subst (Reaches k l) (sym (ap token_at e ∙ number_begins n tail i)) h

-- marks
mark_one : (P : ℕ → Type 0) (b m : ℕ) (r : Bool) → P m → (r ≡ true → P b) → (r || b == m) ≡ true → P b
mark_one P b m r at other e = cases (or_cases r (b == m) e) where
  cases : ((r ≡ true) ⊎ ((b == m) ≡ true)) → P b
  cases (inl h) = other h
  cases (inr h) = subst P (sym (eqb-true b m h)) at

-- what holds of each mark
mark_each : (P : ℕ → Type 0) (b : ℕ) → P 40 → P 41 → P 44 → P 46 → P 58 → P 61 → P 91 → P 93 → P 124 → P 126 → is_mark b ≡ true → P b
mark_each P b p0 p1 p2 p3 p4 p5 p6 p7 p8 p9 =
    mark_one P b 126 _ p9 (mark_one P b 124 _ p8 (mark_one P b 93 _ p7 (mark_one P b 91 _ p6 (mark_one P b 61 _ p5
    (mark_one P b 58 _ p4 (mark_one P b 46 _ p3 (mark_one P b 44 _ p2 (mark_one P b 41 _ p1 (λ e. subst P (sym (eqb-true b 40 e)) p0)))))))))

mark_found : (b : ℕ) (rest : List ℕ) → is_mark b ≡ true → token_at (b ∷ rest) ≡ Some (Punctuation, 1)
unfolding token_at
mark_found b rest e = mark_each (λ (m : ℕ). token_at (m ∷ rest) ≡ Some (Punctuation, 1)) b refl refl refl refl refl refl refl refl refl refl e

unequal_found : (rest : List ℕ) → token_at (33 ∷ 61 ∷ rest) ≡ Some (Punctuation, 2)
unfolding token_at
unequal_found rest = refl

between_at : (mark : ℕ) (items text rest : List ℕ) → text ≡ mark ∷ items ++ mark ∷ [] → text ++ rest ≡ mark ∷ items ++ mark ∷ rest
between_at mark items text rest e = ap (λ (xs : List ℕ). xs ++ rest) e ∙ ap (λ (xs : List ℕ). mark ∷ xs) (append_assoc items (mark ∷ []) rest)

between_len : (mark : ℕ) (items text : List ℕ) → text ≡ mark ∷ items ++ mark ∷ [] → length text ≡ length items + 2
between_len mark items text e = omega (arith, ap length e, length-append items (mark ∷ []))

same_reach : (k : TokenKind) (l m : ℕ) (o : Option (TokenKind × ℕ)) → l ≡ m → Reaches k m o → Reaches k l o
same_reach k l m o e h = rw e h

fraction_at : (n f ds rest : List ℕ) → f ≡ 46 ∷ ds → (n ++ f) ++ rest ≡ n ++ (46 ∷ ds ++ rest)
fraction_at n f ds rest e = append_assoc n f rest ∙ ap (λ (xs : List ℕ). n ++ (xs ++ rest)) e

exponent_at : (n x rest : List ℕ) (e : ℕ) (i : List ℕ) → x ≡ e ∷ i → (n ++ x) ++ rest ≡ n ++ (e ∷ i ++ rest)
exponent_at n x rest e i h = append_assoc n x rest ∙ ap (λ (xs : List ℕ). n ++ (xs ++ rest)) h

real_at : (n f x ds rest : List ℕ) (e : ℕ) (i : List ℕ) → f ≡ 46 ∷ ds → x ≡ e ∷ i → (n ++ f ++ x) ++ rest ≡ n ++ (46 ∷ ds ++ (e ∷ i ++ rest))
real_at n f x ds rest e i g h =
    append_assoc (n ++ f) x rest ∙ (append_assoc n f (x ++ rest) ∙ (ap (λ (xs : List ℕ). n ++ (xs ++ (x ++ rest))) g ∙ ap (λ (xs : List ℕ). n ++ (46 ∷ ds ++ (xs ++ rest))) h))

pub token_found : (k : TokenKind) (text rest : List ℕ) → IsToken k text → Reaches k (length text) (token_at (text ++ rest))
token_found k text rest (a_lower t h) = lower_found t rest h
token_found k text rest (a_variable t h) = upper_found t rest h
token_found k text rest (a_dollar t h) = rw at_dollar (same_reach DollarWord (suc (length t)) (length t + 1) (dollar_at (t ++ rest)) (omega arith) (dollar_found t rest h))
token_found k text rest (a_double t h) = rw at_dollar (same_reach DollarWord (suc (suc (length t))) (length t + 2) (dollar_at (36 ∷ t ++ rest)) (omega arith) (double_found t rest h))
token_found k text rest (a_quoted items t h some) = rw (between_at 39 items t rest h.0, between_len 39 items t h.0) (quoted_found items rest h.1 some)
token_found k text rest (a_distinct items t h) = rw (between_at 34 items t rest h.0, between_len 34 items t h.0) (distinct_found items rest h.1)
token_found k text rest (an_integer t i) = as_number Integer (length t) t rest (t ++ rest) i refl (integer_found t rest i)
token_found k text rest (a_rational n d i ds) = as_number Rational (length (n ++ 47 ∷ d)) n (47 ∷ d ++ rest) ((n ++ 47 ∷ d) ++ rest) i (append_assoc n (47 ∷ d) rest) (rational_found n d rest i ds)
token_found k text rest (a_fraction n f i g) =
    let same : length (n ++ f) ≡ length (n ++ 46 ∷ g.0) = ap (λ (xs : List ℕ). length (n ++ xs)) g.1 in
    as_number Real (length (n ++ f)) n (46 ∷ g.0 ++ rest) ((n ++ f) ++ rest) i (fraction_at n f g.0 rest g.1) (same_reach Real _ _ _ same (fraction_found n g.0 rest i g.2))
token_found k text rest (an_exponent n x i g) =
    let same : length (n ++ x) ≡ length (n ++ g.0 ∷ g.1) = ap (λ (xs : List ℕ). length (n ++ xs)) g.2 in
    as_number Real (length (n ++ x)) n (g.0 ∷ g.1 ++ rest) ((n ++ x) ++ rest) i (exponent_at n x rest g.0 g.1 g.2) (same_reach Real _ _ _ same (exponent_alone n rest g.0 g.1 i g.3 g.4))
token_found k text rest (a_real n f x i g h) =
    let same : length (n ++ f ++ x) ≡ length n + (length g.0 + 1) + (length h.1 + 1) = omega (arith, length-append (n ++ f) x, length-append n f, ap length g.1, ap length h.2) in
    as_number Real (length (n ++ f ++ x)) n (46 ∷ g.0 ++ (h.0 ∷ h.1 ++ rest)) ((n ++ f ++ x) ++ rest) i (real_at n f x g.0 rest h.0 h.1 g.1 h.2) (same_reach Real _ _ _ same (real_found n g.0 rest h.0 h.1 i g.2 h.3 h.4))
token_found k text rest (a_mark b e) = rw (mark_found b rest e) (reached Punctuation 1 1 (omega arith))
token_found k text rest unequal = rw (unequal_found rest) (reached Punctuation 2 2 (omega arith))
