-- Reading a whole statement from left to right.
use Rattle.std.specs.Prelude.{ℕ, List, [], ◌∷◌, length, Bool, true, false, ◌&&◌, if◌then◌else◌, Option, Some, None, codes}
use Rattle.std.specs.Str.{bytes_eq}
use Rattle.tptp_read.specs.Stream.{Tok}
use Rattle.tptp_read.specs.Lexemes.{is_lower_kind, is_quoted_kind}
use Rattle.tptp_read.specs.Grammar.{Note, unnoted, source, with_empty, with_list, Form, cnf, whole, selected, is_name}
use Rattle.tptp_read.specs.Parse.{◌>>=◌, Reads, begins_with, behind, many_at}
use Rattle.tptp_read.specs.ParseClause.{items_of, item_at}
use Rattle.tptp_read.specs.ParseGeneral.{listing_with, general_at}
use Rattle.inst_logic.specs.Codes as byte

unfoldable pub one_of : (Tok → Bool) → Reads Tok
one_of p [] = None
one_of p (t ∷ ts) = if p t then Some (t, ts) else None

unfoldable pub expect : ℕ → List Tok → Option (List Tok)
expect b ts = if begins_with b ts then Some (behind ts) else None

abbrev pub is_nothing : List Tok → Bool
is_nothing [] = true
is_nothing (t ∷ ts) = false

abbrev pub is_tail : List Tok → Bool
is_tail ts = begins_with byte.closing_parenthesis ts && (begins_with byte.full_stop (behind ts) && is_nothing (behind (behind ts)))

abbrev pub is_lower : Tok → Bool
is_lower t = is_lower_kind t.kind

abbrev pub is_quoted : Tok → Bool
is_quoted t = is_quoted_kind t.kind

unfoldable pub note_at : ℕ → Reads Note
note_at d ts =
    if begins_with byte.comma ts then (do
      g ← general_at d (behind ts)
      if begins_with byte.comma g.1 then (do
        us ← expect byte.opening_bracket (behind g.1)
        if begins_with byte.closing_bracket us then Some (with_empty g.0, behind us) else (do
          l ← listing_with (general_at d) byte.closing_bracket us
          Some (with_list g.0 l.0.0 l.0.1, l.1)))
          else Some (source g.0, g.1))
    else Some (unnoted, ts)

unfoldable pub cnf_at : ℕ → List Tok → Option Form
cnf_at d ts = do
  a ← expect byte.opening_parenthesis ts
  n ← one_of is_name a
  b ← expect byte.comma n.1
  r ← one_of is_lower b
  c ← expect byte.comma r.1
  i ← item_at d d c
  is ← many_at byte.bar (item_at d d) (length i.1) i.1
  x ← note_at d is.1
  if is_tail x.1 then Some (cnf n.0 r.0 i.0 (items_of is.0) x.0) else None

unfoldable pub include_at : List Tok → Option Form
include_at ts = do
  a ← expect byte.opening_parenthesis ts
  f ← one_of is_quoted a
  if is_tail f.1 then Some (whole f.0) else (do
    b ← expect byte.comma f.1
    c ← expect byte.opening_bracket b
    n ← one_of is_name c
    ns ← many_at byte.comma (one_of is_name) (length n.1) n.1
    e ← expect byte.closing_bracket ns.1
    if is_tail e then Some (selected f.0 n.0 ns.0) else None)

unfoldable pub form_at : List Tok → Option Form
form_at ts = do
  k ← one_of is_lower ts
  if bytes_eq k.0.text (codes "cnf") then cnf_at (length ts) k.1 else (if bytes_eq k.0.text (codes "include") then include_at k.1 else None)
