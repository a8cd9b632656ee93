-- The tokens of a text, one after the other.
use Rattle.std.specs.Prelude.{◌≡◌, ℕ, ◌-◌, ◌<◌, ◌≤◌, List, [], ◌++◌, length, take, drop, Option, Some, None, MatchOption}
use Rattle.tptp_read.specs.declared.kind.TokenKind.{TokenKind}
use Rattle.tptp_read.specs.declared.kind.Token.{Token}
use Rattle.tptp_read.specs.Table.{IsToken, IsLongest}
use Rattle.tptp_read.specs.Skipped.{Skips}

-- a token by its kind and its bytes
pub record Tok : Type 0 where
  pub kind : TokenKind
  pub text : List ℕ

-- behind blanks and comments the text has this token, the longest one there, and `after` follows it
pub record IsNext (text : List ℕ) (t : Tok) (after : List ℕ) : Type 0 where
  pub rest : List ℕ
  pub skipped : Skips text rest
  pub spelled : rest ≡ t.text ++ after
  pub longest : IsLongest rest t.kind (length t.text)

-- no token begins the text
abbrev pub HasNoToken : List ℕ → Type 0
HasNoToken text = (k : TokenKind) (n : ℕ) → n ≤ length text → IsToken k (take n text) → ⊥

-- behind all blanks and comments the rest is left, and no token begins it
pub record IsEnd (text rest : List ℕ) : Type 0 where
  pub skipped : Skips text rest
  pub all : (more : List ℕ) → Skips rest more → more ≡ rest
  pub no_token : HasNoToken rest

-- nothing but blanks and comments
abbrev pub IsDone : List ℕ → Type 0
IsDone text = Skips text []

-- what a stream of tokens holds: its text, and the place up to which it was given
pub record Stream : Type 0 where
  pub text : List ℕ
  pub at : ℕ

-- the token of the text, by its bytes
abbrev pub tok_of : List ℕ → Token → Tok
tok_of text t = record { kind = t.kind; text = take (t.end - t.start) (drop t.start text) }

-- the next token of the stream
pub record GivesToken (s : Stream) (t : Token) : Type 0 where
  pub from : s.at ≤ t.start
  pub some : t.start < t.end
  pub within : t.end ≤ length s.text
  pub next : IsNext (drop s.at s.text) (tok_of s.text t) (drop t.end s.text)

-- what a call of the stream gives: the next token, up to whose end the stream then stands, or the place where none begins
abbrev pub Advances : Stream → Option Token → Stream → Type 0
Advances s None r = (r.text ≡ s.text) × (s.at ≤ r.at) × (r.at ≤ length s.text) × IsEnd (drop s.at s.text) (drop r.at s.text)
Advances s (Some t) r = (r.text ≡ s.text) × (r.at ≡ t.end) × GivesToken s t

-- what stands first in a text: a token and what follows it, or none; and it is the only one
pub record IsDecidedToken (text : List ℕ) : Type 0 where
  pub found : Option (Tok × List ℕ)
  pub is : MatchOption found ((rest : List ℕ) × IsEnd text rest) (λ z. IsNext text z.0 z.1)
  pub only : (t : Tok) (after : List ℕ) → IsNext text t after → found ≡ Some (t, after)
  pub shorter : (t : Tok) (after : List ℕ) → IsNext text t after → length after < length text
