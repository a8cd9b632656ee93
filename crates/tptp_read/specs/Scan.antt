-- The longest token at the front of a list of bytes: its kind and its length.
use Rattle.std.specs.Prelude.{ℕ, ◌+◌, List, [], ◌∷◌, Bool, false, ◌||◌, ◌==◌, drop, if◌then◌else◌, Option, Some, None}
use Rattle.std.specs.Char.{is_ascii_digit, is_ascii_lowercase, is_ascii_uppercase}
use Rattle.std.specs.Option.{option_map_or}
use Rattle.tptp_read.specs.declared.kind.TokenKind.{TokenKind}
use Rattle.tptp_read.specs.declared.kind.TokenKind.TheVariants.{LowerWord, Variable, DollarWord, QuotedWord, DistinctObject, Integer, Rational, Real, Punctuation}
use Rattle.tptp_read.specs.Bytes.{is_word_byte, is_sign, is_mark, run, closing}
use Rattle.inst_logic.specs.Codes as byte

abbrev pub begins : (ℕ → Bool) → List ℕ → Bool
begins p [] = false
begins p (b ∷ bs) = p b

-- 1 where a byte of this class is at the front
abbrev pub optional : (ℕ → Bool) → List ℕ → ℕ
optional p bs = if begins p bs then 1 else 0

-- the mark and one or more digits, or nothing
abbrev pub digits_after : ℕ → List ℕ → ℕ
digits_after mark [] = 0
digits_after mark (b ∷ bs) = if b == mark then (let n = run is_ascii_digit bs in if n == 0 then 0 else n + 1) else 0

-- an exponent, or nothing
abbrev pub exponent : List ℕ → ℕ
exponent [] = 0
exponent (b ∷ bs) = if b == 69 || b == 101 then (let s = optional is_sign bs in let n = run is_ascii_digit (drop s bs) in if n == 0 then 0 else s + n + 1) else 0

unfoldable pub number_at : List ℕ → Option (TokenKind × ℕ)
number_at bs =
    let s = optional is_sign bs in
    let n = run is_ascii_digit (drop s bs) in
    let whole = s + n in
    let after = drop whole bs in
    let q = digits_after byte.slash after in
    let f = digits_after byte.full_stop after in
    let x = exponent (drop f after) in
    if n == 0 then None else (if q == 0 then (if f + x == 0 then Some (Integer, whole) else Some (Real, whole + (f + x))) else Some (Rational, whole + q))

unfoldable pub dollar_at : List ℕ → Option (TokenKind × ℕ)
dollar_at bs =
    let s = optional (λ b. b == byte.dollar) bs in
    if begins is_ascii_lowercase (drop s bs) then Some (DollarWord, s + run is_word_byte (drop s bs) + 1) else None

unfoldable pub quoted_at : List ℕ → Option (TokenKind × ℕ)
quoted_at bs = option_map_or (λ n. if n == 1 then None else Some (QuotedWord, n + 1)) (closing byte.quote false bs) None

unfoldable pub distinct_at : List ℕ → Option (TokenKind × ℕ)
distinct_at bs = option_map_or (λ n. Some (DistinctObject, n + 1)) (closing byte.double_quote false bs) None

unfoldable pub token_at : List ℕ → Option (TokenKind × ℕ)
token_at [] = None
token_at (b ∷ bs) =
    if is_ascii_lowercase b then Some (LowerWord, run is_word_byte bs + 1)
    else (if is_ascii_uppercase b then Some (Variable, run is_word_byte bs + 1)
    else (if b == byte.dollar then dollar_at bs
    else (if b == byte.quote then quoted_at bs
    else (if b == byte.double_quote then distinct_at bs
    else (if is_sign b || is_ascii_digit b then number_at (b ∷ bs)
    else (if b == byte.exclamation_mark then (if begins (λ c. c == byte.equals_sign) bs then Some (Punctuation, 2) else None)
    else (if is_mark b then Some (Punctuation, 1) else None)))))))
