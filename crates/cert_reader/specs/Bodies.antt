-- What has been read of a text, up to its items and behind them.
use Rattle.std.specs.Prelude.{◌≡◌, ◌≢◌, ◌⊎◌, ℕ, ◌^◌, ◌<◌, suc, List, [], ◌∷◌, ◌++◌, length, Bool, true, false, ◌&&◌, IsTrue}
use Rattle.std.specs.List.{list_all}
use Rattle.inst_logic.specs.Clauses.{TreeClause}
use Rattle.cert_format.specs.Fronts.{IsBadLine}
use Rattle.cert_format.specs.LineMachine.{Note, Item, Header, Line, status, opening, version, constant, item, closing, body, done, count, fits, is_complete}
use Rattle.cert_format.specs.LineTexts.{line, note_is_printable}
use Rattle.cert_format.specs.Formats.{clause_is_printable, may_follow, text_of_lines, Leads}
use Rattle.cert_format.specs.ValueLines.{item_lines, IsCertificateText}
use Rattle.cert_items.specs.Items.{shape_of}
use Rattle.cert_items.specs.declared.shape.TextShape.{TextShape}
use Rattle.cert_reader.specs.declared.groups.Groups.{Groups}
use Rattle.cert_reader.specs.Groups.{names_in, IsAllShown}
use Rattle.cert_reader.specs.declared.body.Ending.{Ending}
use Rattle.cert_reader.specs.declared.body.Ending.TheVariants.{Complete, BadLine}

-- the shape of a refutation's text in a format, and of a saturation's
abbrev pub refutation_in : ℕ → TextShape
refutation_in format = record { refutation = true; format = format }

abbrev pub saturation_in : ℕ → TextShape
saturation_in format = record { refutation = false; format = format }

-- the header of a text of the shape
abbrev pub header : TextShape → List ℕ → List ℕ → Header
header shape name bot = record { refutation = shape.refutation; name = name; format = shape.format; bot = bot }

-- a refutation has a line for its constant
abbrev pub constant_lines : Bool → List ℕ → List Line
constant_lines true bot = constant bot ∷ []
constant_lines false bot = []

-- the lines up to and including those of the items
abbrev pub lines_up_to : Header → List Item → List Line
lines_up_to h is = status h.refutation h.name ∷ opening h.refutation h.name ∷ version h.format ∷ (constant_lines h.refutation h.bot ++ item_lines [] is)

-- the item can be printed under the header
abbrev pub is_good : Header → Item → Bool
is_good h i = fits h i.note && (clause_is_printable i.clause && note_is_printable i.note)

-- the text begins with so many lines, which are those up to the items
pub record HasRead (text : List ℕ) (h : Header) (is : List Item) (lines : ℕ) (rest : List ℕ) : Type 0 where
  pub leads : Leads (lines_up_to h is) (body h is)
  pub text_is : text ≡ text_of_lines (lines_up_to h is) ++ rest
  pub counted : length (lines_up_to h is) ≡ lines
  pub good : list_all (is_good h) is ≡ true
  pub few : (k : ℕ) → count k is < 2 ^ 64

-- one more item, which may follow, is at the front of the text
pub record IsNextItem (shape : TextShape) (is js : List Item) (bytes rest : List ℕ) : Type 0 where
  pub number : ℕ
  pub clause : TreeClause
  pub note : Note
  pub follows : (h : Header) → shape_of h ≡ shape → IsTrue (may_follow h is number clause note)
  pub one_more : js ≡ is ++ record { clause = clause; note = note } ∷ []
  pub text_is : bytes ≡ line (item number clause note) rest

-- no item that may follow is at the front of the text
abbrev pub NoNextItem : TextShape → List Item → List ℕ → Type 0
NoNextItem shape is bytes = (h : Header) → shape_of h ≡ shape → (n : ℕ) (c : TreeClause) (note : Note) (rest : List ℕ) → IsTrue (may_follow h is n c note) → bytes ≢ line (item n c note) rest

-- the last line ends the text
pub record IsComplete (text : List ℕ) (h : Header) (is : List Item) : Type 0 where
  pub leads : Leads (lines_up_to h is ++ closing h.refutation h.name ∷ []) (done h is)
  pub text_is : text ≡ text_of_lines (lines_up_to h is ++ closing h.refutation h.name ∷ [])
  pub complete : is_complete h is ≡ true
  pub good : list_all (is_good h) is ≡ true
  pub few : (k : ℕ) → count k is < 2 ^ 64

-- the line is the first that stands there in no certificate text, and the text is none
pub record IsRefusedAt (text : List ℕ) (n : ℕ) : Type 0 where
  pub first : IsBadLine IsCertificateText n text
  pub no_text : ¬ IsCertificateText text

-- how the text ends behind the items
abbrev pub EndsSo : List ℕ → Header → List Item → Ending → Type 0
EndsSo text h is Complete = IsComplete text h is
EndsSo text h is (BadLine n) = IsRefusedAt text n

-- how a text ends whose last line has this number, with this behind it
abbrev pub ending_behind : ℕ → List ℕ → Ending
ending_behind lines [] = Complete
ending_behind lines (b ∷ bs) = BadLine (suc lines)

-- nothing is left to be shown
abbrev pub IsDone : TextShape → Groups → Type 0
IsDone shape g = IsTrue (names_in shape) → IsAllShown g

-- how a text of the shape with these items ends at its last line, which has this number
abbrev pub EndsAt : TextShape → Groups → ℕ → List ℕ → Ending → Type 0
EndsAt shape g line rest e = (IsDone shape g × (e ≡ ending_behind line rest)) ⊎ ((¬ IsDone shape g) × (e ≡ BadLine line))
