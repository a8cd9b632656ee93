-- Items at the front of a text.
use Rattle.std.specs.Prelude.{◌≡◌, ◌≢◌, ℕ, List, ◌∷◌, ◌++◌, map, codes, decimal, All, IsTrue}
use Rattle.inst_logic.specs.Clauses.{TreeClause}
use Rattle.term_bank.specs.Forest.{Forest, tree_at}
use Rattle.cert_format.specs.LineMachine.{is_number, Note, named, equality, member, selected, ground_of, ground_by, shown_by, input_by, side_by, Header, fits, item}
use Rattle.cert_format.specs.LineTexts.{letter_q, letter_c, line, note_text, note_is_printable}
use Rattle.cert_format.specs.Formats.{clause_is_printable}
use Rattle.cert_values.specs.Values.{origin_of, hint_of, by_of, side_of}
use Rattle.cert_values.specs.Wholes.{IsWholeTerm, IsWholeBy}
use Rattle.cert_items.specs.declared.group.Group.{Group}
use Rattle.cert_items.specs.declared.group.Group.TheVariants as groups
use Rattle.cert_items.specs.declared.note.Note as read
use Rattle.cert_items.specs.declared.note.Note.TheVariants as notes
use Rattle.cert_items.specs.declared.shape.TextShape.{TextShape}
use Rattle.inst_logic.specs.Codes as byte

-- ---- groups

-- the group of the note
abbrev pub group_of : Note → Group
group_of (named w) = groups.Input
group_of equality = groups.Axiom
group_of (member o) = groups.Member
group_of (selected o p) = groups.Member
group_of ground_of = groups.Ground
group_of (ground_by k ts) = groups.Ground
group_of (shown_by hs) = groups.Step
group_of (input_by by) = groups.Shown
group_of (side_by left right side by) = groups.Cover

-- the place of the group in a text
abbrev pub rank_of : Group → ℕ
rank_of groups.Input = 0
rank_of groups.Axiom = 1
rank_of groups.Member = 2
rank_of groups.Ground = 3
rank_of groups.Step = 4
rank_of groups.Shown = 5
rank_of groups.Cover = 6

-- the letter before the number
abbrev pub letter_of : Group → ℕ
letter_of groups.Input = byte.letter_i
letter_of groups.Axiom = byte.letter_e
letter_of groups.Member = byte.letter_m
letter_of groups.Ground = byte.letter_g
letter_of groups.Step = byte.letter_r
letter_of groups.Shown = letter_q
letter_of groups.Cover = letter_c

-- the role and its comma
abbrev pub role_of : Group → List ℕ → List ℕ
role_of groups.Input rest = codes "axiom," ++ rest
role_of groups.Axiom rest = codes "axiom," ++ rest
role_of groups.Member rest = codes "plain," ++ rest
role_of groups.Ground rest = codes "plain," ++ rest
role_of groups.Step rest = codes "plain," ++ rest
role_of groups.Shown rest = codes "plain," ++ rest
role_of groups.Cover rest = codes "plain," ++ rest

-- the line of an item of the group with this number, up to its clause
abbrev pub head_text : Group → ℕ → List ℕ → List ℕ
head_text g n rest = codes "cnf(" ++ (letter_of g ∷ (decimal n ++ byte.comma ∷ role_of g rest))

-- ---- notes

-- the note that was read over the bank
abbrev pub note_of : Forest → read.Note → Note
note_of f (notes.Named w) = named w
note_of f notes.Equality = equality
note_of f (notes.Member o) = member (origin_of o)
note_of f (notes.Selected o p) = selected (origin_of o) p
note_of f notes.Ground = ground_of
note_of f (notes.GroundBy k ts) = ground_by k (map (tree_at f) ts)
note_of f (notes.Hinted hs) = shown_by (map hint_of hs)
note_of f (notes.InputBy by) = input_by (by_of f by)
note_of f (notes.SideBy left right side by) = side_by left right (side_of side) (by_of f by)

-- its ids are those of terms of the bank
abbrev pub IsWholeNote : Forest → read.Note → Type 0
IsWholeNote f (notes.Named w) = Unit {0}
IsWholeNote f notes.Equality = Unit {0}
IsWholeNote f (notes.Member o) = Unit {0}
IsWholeNote f (notes.Selected o p) = Unit {0}
IsWholeNote f notes.Ground = Unit {0}
IsWholeNote f (notes.GroundBy k ts) = All (IsWholeTerm f) ts
IsWholeNote f (notes.Hinted hs) = Unit {0}
IsWholeNote f (notes.InputBy by) = IsWholeBy f by
IsWholeNote f (notes.SideBy left right side by) = IsWholeBy f by

-- the shape of a text under this header
abbrev pub shape_of : Header → TextShape
shape_of h = record { refutation = h.refutation; format = h.format }

-- texts of the shape have the note
abbrev pub HasForm : TextShape → Note → Type 0
HasForm shape note = (h : Header) → shape_of h ≡ shape → IsTrue (fits h note)

-- a printable note of the shape and the group
pub record IsNote (shape : TextShape) (group : Group) (note : Note) : Type 0 where
  pub printable : IsTrue (note_is_printable note)
  pub form : HasForm shape note
  pub group_is : group_of note ≡ group

-- the note of the item with this number is at the front of the text
abbrev pub IsNoteAt : TextShape → Group → ℕ → Note → List ℕ → List ℕ → Type 0
IsNoteAt shape group n note bytes rest = IsNote shape group note × (bytes ≡ note_text n note rest)

-- no note is at the front of the text
abbrev pub NoNote : TextShape → Group → ℕ → List ℕ → Type 0
NoNote shape group n bytes = (note : Note) (rest : List ℕ) → IsNote shape group note → bytes ≢ note_text n note rest

-- none with the end of its line behind it
abbrev pub NoLastNote : TextShape → Group → ℕ → List ℕ → Type 0
NoLastNote shape group n bytes = (note : Note) (rest : List ℕ) → IsNote shape group note → bytes ≢ note_text n note (byte.closing_parenthesis ∷ byte.full_stop ∷ byte.line_feed ∷ rest)

-- ---- items

-- an item with this number, clause and note has a line in a text of the shape
pub record IsItem (shape : TextShape) (n : ℕ) (c : TreeClause) (note : Note) : Type 0 where
  pub number : IsTrue (is_number n)
  pub clause : IsTrue (clause_is_printable c)
  pub printable : IsTrue (note_is_printable note)
  pub form : HasForm shape note

-- no item's line is at the front of the text
abbrev pub NoItem : TextShape → List ℕ → Type 0
NoItem shape bytes = (n : ℕ) (c : TreeClause) (note : Note) (rest : List ℕ) → IsItem shape n c note → bytes ≢ line (item n c note) rest
