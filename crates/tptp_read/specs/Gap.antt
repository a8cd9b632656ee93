-- Blanks and comments.
use Rattle.std.specs.Prelude.{ℕ, zero, suc, ◌+◌, ◌-◌, List, [], ◌∷◌, false, ◌==◌, if◌then◌else◌}
use Rattle.std.specs.Option.{option_map_or}
use Rattle.tptp_read.specs.Bytes.{is_blank, is_no_line_feed, run, comment_end}
use Rattle.inst_logic.specs.Codes as byte

-- a comment behind its `/`, with that byte, or nothing
abbrev pub block : List ℕ → ℕ
block [] = 0
block (b ∷ bs) = if b == byte.asterisk then option_map_or (λ n. n + 2) (comment_end false bs) 0 else 0

-- the blank or the comment at the front, or nothing
unfoldable pub piece : List ℕ → ℕ
piece [] = 0
piece (b ∷ bs) = if is_blank b then 1 else (if b == byte.percent then run is_no_line_feed bs + 1 else (if b == byte.slash then block bs else 0))

-- blanks and comments at the front, of which the first `known` bytes are known
abbrev pub gap_from : ℕ → List ℕ → ℕ
gap_from known [] = 0
gap_from zero (b ∷ bs) = let n = piece (b ∷ bs) in if n == 0 then 0 else gap_from (n - 1) bs + 1
gap_from (suc known) (b ∷ bs) = gap_from known bs + 1

abbrev pub gap : List ℕ → ℕ
gap bs = gap_from 0 bs
