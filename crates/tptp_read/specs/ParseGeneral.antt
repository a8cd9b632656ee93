-- Reading annotations from left to right.
use Rattle.std.specs.Prelude.{ℕ, zero, suc, List, [], ◌∷◌, length, ◌&&◌, if◌then◌else◌, Some, None}
use Rattle.tptp_read.specs.Lexemes.{is_head, is_plain}
use Rattle.tptp_read.specs.Grammar.{General, thing, pair, empty, filled, Thing, token, call, Generals, ended, also}
use Rattle.tptp_read.specs.Parse.{◌>>=◌, Reads, begins_with, behind, many_at}
use Rattle.inst_logic.specs.Codes as byte

abbrev pub generals_of : List General → Generals
generals_of [] = ended
generals_of (g ∷ gs) = also g (generals_of gs)

-- one or more, and the mark that closes
unfoldable pub listing_with : Reads General → ℕ → Reads (General × Generals)
listing_with p c ts = do
  g ← p ts
  gs ← many_at byte.comma p (length g.1) g.1
  if begins_with c gs.1 then Some ((g.0, generals_of gs.0), behind gs.1) else None

unfoldable pub thing_with : Reads General → Reads Thing
thing_with p [] = None
thing_with p (t ∷ ts) =
    if is_head t.kind && begins_with byte.opening_parenthesis ts then (do
      l ← listing_with p byte.closing_parenthesis (behind ts)
      Some (call t l.0.0 l.0.1, l.1))
    else (if is_plain t.kind then Some (token t, ts) else None)

unfoldable pub general_with : Reads General → Reads General
general_with p ts =
    if begins_with byte.opening_bracket ts then (if begins_with byte.closing_bracket (behind ts) then Some (empty, behind (behind ts)) else (do
      l ← listing_with p byte.closing_bracket (behind ts)
      Some (filled l.0.0 l.0.1, l.1)))
    else (do
      t ← thing_with p ts
      if begins_with byte.colon t.1 then (do
        g ← p (behind t.1)
        Some (pair t.0 g.0, g.1))
          else Some (thing t.0, t.1))

unfoldable pub general_at : ℕ → Reads General
general_at zero = general_with (λ ts. None)
general_at (suc n) = general_with (general_at n)
