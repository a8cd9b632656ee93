-- Kinds of tokens, and the tokens at the front of a text.
use Rattle.std.specs.Prelude.{◌≡◌, ℕ, List, [], ◌∷◌, Bool, true, false, ◌&&◌}
use Rattle.std.specs.Str.{bytes_eq}
use Rattle.tptp_read.specs.declared.kind.TokenKind.{TokenKind}
use Rattle.tptp_read.specs.declared.kind.TokenKind.TheVariants.{LowerWord, Variable, DollarWord, QuotedWord, DistinctObject, Integer, Rational, Real, Punctuation}
use Rattle.tptp_read.specs.Stream.{Tok, IsNext}

abbrev pub mark : ℕ → Tok
mark b = record { kind = Punctuation; text = b ∷ [] }

abbrev pub lower : List ℕ → Tok
lower text = record { kind = LowerWord; text = text }

-- the text begins with these tokens, and `rest` follows the last
abbrev pub Begins : List ℕ → List Tok → List ℕ → Type 0
Begins text [] rest = text ≡ rest
Begins text (t ∷ ts) rest = (after : List ℕ) × IsNext text t after × Begins after ts rest

-- a word that may have arguments
abbrev pub is_head : TokenKind → Bool
is_head LowerWord = true
is_head DollarWord = true
is_head QuotedWord = true
is_head _ = false

-- a term or a general term by itself
abbrev pub is_plain : TokenKind → Bool
is_plain Punctuation = false
is_plain _ = true

abbrev pub is_punctuation : TokenKind → Bool
is_punctuation Punctuation = true
is_punctuation _ = false

abbrev pub is_mark_token : ℕ → Tok → Bool
is_mark_token b t = is_punctuation t.kind && bytes_eq t.text (b ∷ [])

abbrev pub is_lower_kind : TokenKind → Bool
is_lower_kind LowerWord = true
is_lower_kind _ = false

abbrev pub is_quoted_kind : TokenKind → Bool
is_quoted_kind QuotedWord = true
is_quoted_kind _ = false

abbrev pub is_variable_kind : TokenKind → Bool
is_variable_kind Variable = true
is_variable_kind _ = false

abbrev pub is_dollar_kind : TokenKind → Bool
is_dollar_kind DollarWord = true
is_dollar_kind _ = false

abbrev pub is_name_kind : TokenKind → Bool
is_name_kind LowerWord = true
is_name_kind QuotedWord = true
is_name_kind Integer = true
is_name_kind _ = false

-- a token that no term of the disjunction may be or have
abbrev pub is_feature : TokenKind → Bool
is_feature DollarWord = true
is_feature DistinctObject = true
is_feature Integer = true
is_feature Rational = true
is_feature Real = true
is_feature _ = false
