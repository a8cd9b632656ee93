-- Numbers: what is found is spelled so, and what is spelled so is found.
use Rattle.std.proofs.Common.{◌≡◌, ℕ, ◌+◌, ◌<◌, ◌≤◌, false, ◌⊎◌, inl, inr, List, [], ◌∷◌, ◌++◌, length, drop, Option, Some, None, refl, sym, ap, ◌∙◌, arith, append_assoc, append-nil, length-append}
use Rattle.std.specs.Prelude.{◌||◌, ◌==◌, IsTrue, if◌then◌else◌}
use Rattle.std.specs.Char.{is_ascii_digit}
use Rattle.std.proofs.lemmas.Bool.{eqb-true, eqb-false, cond_both}
use Rattle.tptp_read.specs.declared.kind.TokenKind.{TokenKind}
use Rattle.tptp_read.specs.declared.kind.TokenKind.TheVariants.{Integer, Rational, Real}
use Rattle.tptp_read.specs.Bytes.{is_sign, run}
use Rattle.tptp_read.specs.Scan.{optional, digits_after, exponent, number_at}
use Rattle.tptp_read.specs.Table.{AreDigits, IsOptionalSign, IsInteger, IsExponent, IsToken, an_integer, a_rational, a_fraction, an_exponent, a_real}
use Rattle.tptp_read.proofs.TokenFronts.{Front, front_drop, AllPass, run_front, sign_front}

-- a token of this kind and length, if any, stands at the front
abbrev pub IsScanned : List ℕ → Option (TokenKind × ℕ) → Type 0
IsScanned bs None = Unit {0}
IsScanned bs (Some z) = Front (IsToken z.0) z.1 bs

-- at least so long a token was found, and of this kind if not longer
abbrev pub Reaches : TokenKind → ℕ → Option (TokenKind × ℕ) → Type 0
Reaches k n None = ⊥
Reaches k n (Some z) = (n ≤ z.1) × (z.1 ≡ n → z.0 ≡ k)

-- a number by the lengths of its parts
abbrev pub number_of : ℕ → ℕ → ℕ → ℕ → ℕ → Option (TokenKind × ℕ)
number_of s n q f x = if n == 0 then None else (if q == 0 then (if f + x == 0 then Some (Integer, s + n) else Some (Real, s + n + (f + x))) else Some (Rational, s + n + q))

pub number_parts : (bs : List ℕ) (s n : ℕ) (after : List ℕ) → optional is_sign bs ≡ s → run is_ascii_digit (drop s bs) ≡ n → drop (s + n) bs ≡ after → number_at bs ≡ number_of s n (digits_after 47 after) (digits_after 46 after) (exponent (drop (digits_after 46 after) after))
unfolding number_at
number_parts bs s n after e1 e2 e3 = rw (e1, e2, e3) refl

pub one_some : (n : ℕ) → (n == 0) ≡ false → 0 < n
one_some n e = let apart = eqb-false n 0 e in cases n apart where
  cases : (n : ℕ) → (n ≡ 0 → ⊥) → 0 < n
  cases n h = omega arith

-- the mark and digits, or nothing
abbrev MarkedDigits : ℕ → List ℕ → Type 0
MarkedDigits mark ts = (length ts ≡ 0) ⊎ ((ds : List ℕ) × (ts ≡ mark ∷ ds) × AreDigits ds)

nothing_front : (P : List ℕ → Type 0) (bs : List ℕ) → P [] → Front P 0 bs
nothing_front P bs h = record { front = []; rest = bs; whole = refl; len = refl; is = h }

marked_front : (mark b : ℕ) (bs : List ℕ) → b ≡ mark → (n : ℕ) → Front (AllPass is_ascii_digit) n bs → (n == 0) ≡ false → Front (MarkedDigits mark) (n + 1) (b ∷ bs)
marked_front mark b bs e n h some = record {
  front = mark ∷ h.front;
  rest = h.rest;
  whole = ap (λ (x : ℕ). x ∷ bs) e ∙ ap (λ (xs : List ℕ). mark ∷ xs) h.whole;
  len = omega (arith, h.len);
  is = inr (h.front, refl, (omega (arith, h.len, one_some n some), h.is));
}

digits_after_front : (mark : ℕ) (bs : List ℕ) → Front (MarkedDigits mark) (digits_after mark bs) bs
digits_after_front mark [] = nothing_front (MarkedDigits mark) [] (inl refl)
digits_after_front mark (b ∷ bs) =
    cond_both (b == mark) (if run is_ascii_digit bs == 0 then 0 else run is_ascii_digit bs + 1) 0 (λ (n : ℕ). Front (MarkedDigits mark) n (b ∷ bs))
    (λ e. cond_both (run is_ascii_digit bs == 0) 0 (run is_ascii_digit bs + 1) (λ (n : ℕ). Front (MarkedDigits mark) n (b ∷ bs))
    (λ none. nothing_front (MarkedDigits mark) (b ∷ bs) (inl refl))
    (λ some. marked_front mark b bs (eqb-true b mark e) (run is_ascii_digit bs) (run_front is_ascii_digit bs) some))
    (λ e. nothing_front (MarkedDigits mark) (b ∷ bs) (inl refl))

-- an optional sign and digits
integer_front : (bs : List ℕ) (s n : ℕ) → s ≡ optional is_sign bs → n ≡ run is_ascii_digit (drop s bs) → (n == 0) ≡ false → Front IsInteger (s + n) bs
integer_front bs s n es en some =
    let sign = sign_front bs in
    let at : drop s bs ≡ sign.rest = ap (λ (k : ℕ). drop k bs) es ∙ front_drop IsOptionalSign _ bs sign in
    let digits = run_front is_ascii_digit sign.rest in
    let same : n ≡ run is_ascii_digit sign.rest = en ∙ ap (run is_ascii_digit) at in
    record {
      front = sign.front ++ digits.front;
      rest = digits.rest;
      whole = sign.whole ∙ (ap (λ (xs : List ℕ). sign.front ++ xs) digits.whole ∙ sym (append_assoc sign.front digits.front digits.rest));
      len = omega (arith, length-append sign.front digits.front, sign.len, digits.len, same, es);
      is = (sign.front, digits.front, refl, sign.is, (omega (arith, digits.len, same, one_some n some), digits.is));
    }

abbrev OptionalExponent : List ℕ → Type 0
OptionalExponent ts = (length ts ≡ 0) ⊎ IsExponent ts

exponent_mark : (b : ℕ) (bs : List ℕ) (s n : ℕ) → IsTrue (b == 69 || b == 101) → Front IsInteger (s + n) bs → Front OptionalExponent (s + n + 1) (b ∷ bs)
exponent_mark b bs s n e h = record {
  front = b ∷ h.front;
  rest = h.rest;
  whole = ap (λ (xs : List ℕ). b ∷ xs) h.whole;
  len = omega (arith, h.len);
  is = inr (b, h.front, refl, e, h.is);
}

exponent_front : (bs : List ℕ) → Front OptionalExponent (exponent bs) bs
exponent_front [] = nothing_front OptionalExponent [] (inl refl)
exponent_front (b ∷ bs) =
    let s = optional is_sign bs in
    let n = run is_ascii_digit (drop s bs) in
    cond_both (b == 69 || b == 101) (if n == 0 then 0 else s + n + 1) 0 (λ (m : ℕ). Front OptionalExponent m (b ∷ bs))
    (λ e. cond_both (n == 0) 0 (s + n + 1) (λ (m : ℕ). Front OptionalExponent m (b ∷ bs))
    (λ none. nothing_front OptionalExponent (b ∷ bs) (inl refl))
    (λ some. exponent_mark b bs s n e (integer_front bs s n refl refl some)))
    (λ e. nothing_front OptionalExponent (b ∷ bs) (inl refl))

-- a number, by its parts
join : (bs mid rest xs ys : List ℕ) → bs ≡ xs ++ mid → mid ≡ ys ++ rest → bs ≡ (xs ++ ys) ++ rest
join bs mid rest xs ys e h = e ∙ (ap (λ (zs : List ℕ). xs ++ zs) h ∙ sym (append_assoc xs ys rest))

two_parts : (k : TokenKind) (bs after : List ℕ) (P : List ℕ → Type 0) (w m : ℕ) → (i : Front IsInteger w bs) → i.rest ≡ after → (t : Front P m after) → IsToken k (i.front ++ t.front) → Front (IsToken k) (w + m) bs
two_parts k bs after P w m i e t is = record {
  front = i.front ++ t.front;
  rest = t.rest;
  whole = join bs after t.rest i.front t.front (i.whole ∙ ap (λ (zs : List ℕ). i.front ++ zs) e) t.whole;
  len = omega (arith, length-append i.front t.front, i.len, t.len);
  is = is;
}

rational_is : (n ts : List ℕ) → IsInteger n → MarkedDigits 47 ts → (length ts ≡ 0 → ⊥) → IsToken Rational (n ++ ts)
rational_is n ts i (inl e) some = absurd (some e)
rational_is n ts i (inr d) some = rw d.1 (a_rational n d.0 i d.2)

rational_front : (bs after : List ℕ) (w q : ℕ) → (i : Front IsInteger w bs) → i.rest ≡ after → (t : Front (MarkedDigits 47) q after) → (q == 0) ≡ false → Front (IsToken Rational) (w + q) bs
rational_front bs after w q i e t some =
    let pos = one_some q some in
    two_parts Rational bs after (MarkedDigits 47) w q i e t (rational_is i.front t.front i.is t.is (λ z. omega (arith, t.len, z, pos)))

fraction_and_exponent : (n fs xs : List ℕ) → IsInteger n → MarkedDigits 46 fs → OptionalExponent xs → (length fs + length xs ≡ 0 → ⊥) → IsToken Real (n ++ (fs ++ xs))
fraction_and_exponent n fs xs i (inl e) (inl h) some = absurd (some (omega (arith, e, h)))
fraction_and_exponent n [] xs i (inl e) (inr x) some = an_exponent n xs i x
fraction_and_exponent n (f ∷ fs) xs i (inl e) (inr x) some = absurd (omega (arith, e))
fraction_and_exponent n fs [] i (inr d) (inl h) some = rw append-nil (a_fraction n fs i d)
fraction_and_exponent n fs (x ∷ xs) i (inr d) (inl h) some = absurd (omega (arith, h))
fraction_and_exponent n fs xs i (inr d) (inr x) some = rw (← append_assoc n fs xs) (a_real n fs xs i d x)

real_front : (bs after : List ℕ) (w f x : ℕ) → (i : Front IsInteger w bs) → i.rest ≡ after → (t : Front (MarkedDigits 46) f after) → Front OptionalExponent x (drop f after) → (f + x == 0) ≡ false → Front (IsToken Real) (w + (f + x)) bs
real_front bs after w f x i e t u some =
    let pos = one_some (f + x) some in
    let at = front_drop (MarkedDigits 46) f after t in
    let both : Front (λ (zs : List ℕ). Unit {0}) (f + x) after = record {
      front = t.front ++ u.front;
      rest = u.rest;
      whole = join after (drop f after) u.rest t.front u.front (t.whole ∙ ap (λ (zs : List ℕ). t.front ++ zs) (sym at)) u.whole;
      len = omega (arith, length-append t.front u.front, t.len, u.len);
      is = tt;
    } in
    two_parts Real bs after (λ (zs : List ℕ). Unit {0}) w (f + x) i e both
    (fraction_and_exponent i.front t.front u.front i.is t.is u.is (λ z. omega (arith, t.len, u.len, z, pos)))

integer_alone : (bs : List ℕ) (w : ℕ) → Front IsInteger w bs → Front (IsToken Integer) w bs
integer_alone bs w i = record { front = i.front; rest = i.rest; whole = i.whole; len = i.len; is = an_integer i.front i.is }

pub number_front : (bs : List ℕ) → IsScanned bs (number_at bs)
number_front bs =
    let s = optional is_sign bs in
    let n = run is_ascii_digit (drop s bs) in
    let after = drop (s + n) bs in
    let q = digits_after 47 after in
    let f = digits_after 46 after in
    let x = exponent (drop f after) in
    rw (number_parts bs s n after refl refl refl)
    (cond_both (n == 0) None (if q == 0 then (if f + x == 0 then Some (Integer, s + n) else Some (Real, s + n + (f + x))) else Some (Rational, s + n + q)) (IsScanned bs)
    (λ none. tt)
    (λ some.
    let i = integer_front bs s n refl refl some in
    let at : i.rest ≡ after = sym (front_drop IsInteger (s + n) bs i) in
    cond_both (q == 0) (if f + x == 0 then Some (Integer, s + n) else Some (Real, s + n + (f + x))) (Some (Rational, s + n + q)) (IsScanned bs)
    (λ no_quotient. cond_both (f + x == 0) (Some (Integer, s + n)) (Some (Real, s + n + (f + x))) (IsScanned bs)
    (λ no_part. integer_alone bs (s + n) i)
    (λ part. real_front bs after (s + n) f x i at (digits_after_front 46 after) (exponent_front (drop f after)) part))
    (λ quotient. rational_front bs after (s + n) q i at (digits_after_front 47 after) quotient)))
