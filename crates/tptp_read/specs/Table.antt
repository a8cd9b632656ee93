-- The table of tokens: how each kind is spelled. A token is the longest front of what is left that is spelled so.
use Rattle.std.specs.Prelude.{◌≡◌, ℕ, ◌<◌, ◌≤◌, List, [], ◌∷◌, ◌++◌, length, take, Bool, true, false, not, ◌||◌, ◌&&◌, ◌==◌, IsTrue}
use Rattle.std.specs.List.{list_all}
use Rattle.std.specs.Char.{is_ascii_digit, is_ascii_lowercase, is_ascii_uppercase}
use Rattle.tptp_read.specs.declared.kind.TokenKind.{TokenKind}
use Rattle.tptp_read.specs.declared.kind.TokenKind.TheVariants.{LowerWord, Variable, DollarWord, QuotedWord, DistinctObject, Integer, Rational, Real, Punctuation}
use Rattle.tptp_read.specs.Bytes.{is_word_byte, is_sign, is_mark, is_printed}
use Rattle.inst_logic.specs.Codes as byte

abbrev pub IsLowerWord : List ℕ → Type 0
IsLowerWord [] = ⊥
IsLowerWord (b ∷ bs) = IsTrue (is_ascii_lowercase b && list_all is_word_byte bs)

abbrev pub IsUpperWord : List ℕ → Type 0
IsUpperWord [] = ⊥
IsUpperWord (b ∷ bs) = IsTrue (is_ascii_uppercase b && list_all is_word_byte bs)

-- items, each a printed byte other than the mark and `\`, or `\` and the mark or `\`
abbrev pub are_items : ℕ → Bool → List ℕ → Bool
are_items mark escaped [] = not escaped
are_items mark true (b ∷ bs) = (b == mark || b == byte.backslash) && are_items mark false bs
are_items mark false (b ∷ bs) = is_printed b && (not (b == mark) && are_items mark (b == byte.backslash) bs)

abbrev pub IsBetween : ℕ → List ℕ → List ℕ → Type 0
IsBetween mark items text = (text ≡ mark ∷ items ++ mark ∷ []) × IsTrue (are_items mark false items)

abbrev pub AreDigits : List ℕ → Type 0
AreDigits ds = (0 < length ds) × IsTrue (list_all is_ascii_digit ds)

abbrev pub IsOptionalSign : List ℕ → Type 0
IsOptionalSign [] = Unit {0}
IsOptionalSign (b ∷ []) = IsTrue (is_sign b)
IsOptionalSign (b ∷ c ∷ bs) = ⊥

abbrev pub IsInteger : List ℕ → Type 0
IsInteger text = (sign : List ℕ) × (digits : List ℕ) × (text ≡ sign ++ digits) × IsOptionalSign sign × AreDigits digits

abbrev pub IsFraction : List ℕ → Type 0
IsFraction text = (ds : List ℕ) × (text ≡ byte.full_stop ∷ ds) × AreDigits ds

abbrev pub IsExponent : List ℕ → Type 0
IsExponent text = (e : ℕ) × (n : List ℕ) × (text ≡ e ∷ n) × IsTrue (e == 69 || e == 101) × IsInteger n

pub data IsToken : TokenKind → List ℕ → Type 0 where
  a_lower : (text : List ℕ) → IsLowerWord text → IsToken LowerWord text
  a_variable : (text : List ℕ) → IsUpperWord text → IsToken Variable text
  a_dollar : (text : List ℕ) → IsLowerWord text → IsToken DollarWord (byte.dollar ∷ text)
  a_double : (text : List ℕ) → IsLowerWord text → IsToken DollarWord (byte.dollar ∷ byte.dollar ∷ text)
  a_quoted : (items text : List ℕ) → IsBetween byte.quote items text → 0 < length items → IsToken QuotedWord text
  a_distinct : (items text : List ℕ) → IsBetween byte.double_quote items text → IsToken DistinctObject text
  an_integer : (text : List ℕ) → IsInteger text → IsToken Integer text
  a_rational : (n d : List ℕ) → IsInteger n → AreDigits d → IsToken Rational (n ++ byte.slash ∷ d)
  a_fraction : (n f : List ℕ) → IsInteger n → IsFraction f → IsToken Real (n ++ f)
  an_exponent : (n x : List ℕ) → IsInteger n → IsExponent x → IsToken Real (n ++ x)
  a_real : (n f x : List ℕ) → IsInteger n → IsFraction f → IsExponent x → IsToken Real (n ++ f ++ x)
  a_mark : (b : ℕ) → IsTrue (is_mark b) → IsToken Punctuation (b ∷ [])
  unequal : IsToken Punctuation (byte.exclamation_mark ∷ byte.equals_sign ∷ [])

-- the longest token at the front, of this kind and this length
pub record IsLongest (bytes : List ℕ) (k : TokenKind) (n : ℕ) : Type 0 where
  pub within : n ≤ length bytes
  pub spelled : IsToken k (take n bytes)
  pub longest : (m : ℕ) (j : TokenKind) → n < m → m ≤ length bytes → IsToken j (take m bytes) → ⊥
