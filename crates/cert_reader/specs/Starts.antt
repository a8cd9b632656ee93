-- How the text of a certificate begins.
use Rattle.std.specs.Prelude.{◌≡◌, ◌≢◌, ℕ, List, IsTrue}
use Rattle.std.specs.List.{list_all}
use Rattle.std.specs.Char.{is_ascii_digit}
use Rattle.cert_format.specs.LineMachine.{status, opening, version}
use Rattle.cert_format.specs.LineTexts.{line, is_text_name}
use Rattle.cert_format.specs.Formats.{is_known}
use Rattle.cert_items.specs.declared.shape.TextShape.{TextShape}
use Rattle.cert_reader.specs.Reads.{format_line, IsSyntaxAt, IsVersion}
use Rattle.cert_reader.specs.declared.start.Start.{Start}
use Rattle.cert_reader.specs.declared.start.Start.TheVariants.{Begun, Bad, Other}

-- the first three lines, in a certificate's text of this shape under this name
pub record HasBegun (text : List ℕ) (shape : TextShape) (name rest : List ℕ) : Type 0 where
  pub is : text ≡ line (status shape.refutation name) (line (opening shape.refutation name) (line (version shape.format) rest))
  pub name_is : IsTrue (is_text_name name)
  pub known : IsTrue (is_known shape.format)

-- no line of a format is at the front
abbrev pub NoFormat : List ℕ → Type 0
NoFormat bytes = (word rest : List ℕ) → IsTrue (list_all is_ascii_digit word) → bytes ≢ format_line word rest

abbrev pub IsStart : List ℕ → Start → Type 0
IsStart text (Begun shape name rest) = HasBegun text shape name.now rest.now
IsStart text (Bad line) = IsSyntaxAt text line
IsStart text (Other word) = IsVersion text word.now
