-- Reading literals and disjunctions from left to right.
use Rattle.std.specs.Prelude.{ℕ, zero, suc, List, [], ◌∷◌, length, Bool, false, ◌&&◌, if◌then◌else◌, Option, Some, None}
use Rattle.std.specs.Str.{bytes_eq}
use Rattle.tptp_read.specs.Stream.{Tok}
use Rattle.tptp_read.specs.Lexemes.{is_punctuation}
use Rattle.tptp_read.specs.Grammar.{Written, is_atom, Negated, no_atom, no_equation, in_parens, Simple, atom, equation, unequal, negated, Item, simple, nested, Items, last, or}
use Rattle.tptp_read.specs.Parse.{◌>>=◌, Reads, begins_with, behind, many_at, term_at}
use Rattle.inst_logic.specs.Codes as byte

abbrev pub is_unequal : List Tok → Bool
is_unequal [] = false
is_unequal (t ∷ ts) = is_punctuation t.kind && bytes_eq t.text (byte.exclamation_mark ∷ byte.equals_sign ∷ [])

unfoldable pub negated_with : Reads Negated → ℕ → Reads Negated
negated_with p d ts =
    if begins_with byte.opening_parenthesis ts then (do
      n ← p (behind ts)
      if begins_with byte.closing_parenthesis n.1 then Some (in_parens n.0, behind n.1) else None)
    else (do
      t ← term_at d ts
      if begins_with byte.equals_sign t.1 then (do
        u ← term_at d (behind t.1)
        Some (no_equation t.0 u.0, u.1))
          else (if is_atom t.0 then Some (no_atom t.0, t.1) else None))

unfoldable pub negated_at : ℕ → ℕ → Reads Negated
negated_at zero d = negated_with (λ ts. None) d
negated_at (suc n) d = negated_with (negated_at n d) d

unfoldable pub simple_at : ℕ → Reads Simple
simple_at d ts =
    if begins_with byte.tilde ts then (do
      n ← negated_at d d (behind ts)
      Some (negated n.0, n.1))
    else (do
      t ← term_at d ts
      if begins_with byte.equals_sign t.1 then (do
        u ← term_at d (behind t.1)
        Some (equation t.0 u.0, u.1))
          else (if is_unequal t.1 then (do
            u ← term_at d (behind t.1)
            Some (unequal t.0 u.0, u.1))
          else (if is_atom t.0 then Some (atom t.0, t.1) else None)))

abbrev pub items_of : List Item → Items
items_of [] = last
items_of (i ∷ is) = or i (items_of is)

unfoldable pub item_with : Reads Item → ℕ → Reads Item
item_with p d ts =
    if begins_with byte.opening_parenthesis ts then (do
      first ← p (behind ts)
      others ← many_at byte.bar p (length first.1) first.1
      if begins_with byte.closing_parenthesis others.1 then Some (nested first.0 (items_of others.0), behind others.1) else None)
    else (do
      s ← simple_at d ts
      Some (simple s.0, s.1))

unfoldable pub item_at : ℕ → ℕ → Reads Item
item_at zero d = item_with (λ ts. None) d
item_at (suc n) d = item_with (item_at n d) d

-- a term, and the term behind a sign of equality where there is one
unfoldable pub sides_at : ℕ → Reads (Written × Option Written)
sides_at d ts = do
  t ← term_at d ts
  if begins_with byte.equals_sign t.1 then (do
    u ← term_at d (behind t.1)
    Some ((t.0, Some u.0), u.1))
      else Some ((t.0, None), t.1)
