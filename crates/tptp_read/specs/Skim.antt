-- Where the tokens go on behind an annotation, which is read and not kept.
use Rattle.std.specs.Prelude.{ℕ, List, length, if◌then◌else◌, Option, Some}
use Rattle.std.specs.Option.{option_map}
use Rattle.tptp_read.specs.Stream.{Tok}
use Rattle.tptp_read.specs.Parse.{begins_with, behind, many_at}
use Rattle.tptp_read.specs.ParseGeneral.{listing_with, thing_with, general_at}
use Rattle.tptp_read.specs.ParseForm.{note_at}
use Rattle.inst_logic.specs.Codes as byte

abbrev pub rest_of : {A : Type 0} → Option (A × List Tok) → Option (List Tok)
rest_of read = option_map (λ z. z.1) read

unfoldable pub after_general : List Tok → Option (List Tok)
after_general ts = rest_of (general_at (length ts) ts)

unfoldable pub after_thing : List Tok → Option (List Tok)
after_thing ts = rest_of (thing_with (general_at (length ts)) ts)

unfoldable pub after_listing : ℕ → List Tok → Option (List Tok)
after_listing close ts = rest_of (listing_with (general_at (length ts)) close ts)

-- behind the general terms that follow the first
unfoldable pub after_others : List Tok → Option (List Tok)
after_others ts = rest_of (many_at byte.comma (general_at (length ts)) (length ts) ts)

-- behind a list whose bracket is open
unfoldable pub after_bracket : List Tok → Option (List Tok)
after_bracket ts = if begins_with byte.closing_bracket ts then Some (behind ts) else after_listing byte.closing_bracket ts

unfoldable pub after_note : ℕ → List Tok → Option (List Tok)
after_note depth ts = rest_of (note_at depth ts)
