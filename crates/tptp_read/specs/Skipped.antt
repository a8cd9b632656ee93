-- Blanks and comments, which may stand before a token.
use Rattle.std.specs.Prelude.{◌≡◌, ℕ, List, [], ◌∷◌, ◌++◌, Bool, false, ◌&&◌, ◌||◌, ◌==◌, IsTrue}
use Rattle.std.specs.List.{list_all}
use Rattle.tptp_read.specs.Bytes.{is_blank, is_no_line_feed}
use Rattle.inst_logic.specs.Codes as byte

-- nothing, or a line feed and more
abbrev pub EndsLine : List ℕ → Type 0
EndsLine [] = Unit {0}
EndsLine (b ∷ bs) = b ≡ byte.line_feed

abbrev pub begins_slash : List ℕ → Bool
begins_slash [] = false
begins_slash (b ∷ bs) = b == byte.slash

-- `*/` stands somewhere
abbrev pub has_end : List ℕ → Bool
has_end [] = false
has_end (b ∷ bs) = (b == byte.asterisk && begins_slash bs) || has_end bs

-- Blanks and comments lead from the text to the rest: `%` up to the next line feed or the end, and `/*` up to the next `*/`.
pub data Skips : List ℕ → List ℕ → Type 0 where
  nothing : (text rest : List ℕ) → text ≡ rest → Skips text rest
  blank : (b : ℕ) (text after rest : List ℕ) → IsTrue (is_blank b) → text ≡ b ∷ after → Skips after rest → Skips text rest
  line : (body text after rest : List ℕ) → IsTrue (list_all is_no_line_feed body) → EndsLine after → text ≡ byte.percent ∷ body ++ after → Skips after rest → Skips text rest
  block : (body text after rest : List ℕ) → has_end body ≡ false → text ≡ byte.slash ∷ byte.asterisk ∷ body ++ byte.asterisk ∷ byte.slash ∷ after → Skips after rest → Skips text rest
