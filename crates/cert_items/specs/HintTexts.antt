-- Hints at the front of a text, one by one.
use Rattle.std.specs.Prelude.{◌≡◌, ◌≢◌, ℕ, List, [], ◌∷◌, map, Bool, true, false}
use Rattle.std.specs.List.{list_all}
use Rattle.inst_calculus.specs.Steps.{Cited}
use Rattle.cert_format.specs.LineTexts.{hint, more_hints, hints, hint_is_printable, hints_are_printable}
use Rattle.cert_values.specs.declared.certificate.GroundHint.{GroundHint}
use Rattle.cert_values.specs.Values.{hint_of}
use Rattle.inst_logic.specs.Codes as byte

-- a hint that ends the list, or has another one behind it
abbrev pub hint_end : Bool → List ℕ → List ℕ
hint_end true rest = byte.closing_bracket ∷ byte.closing_parenthesis ∷ rest
hint_end false rest = byte.comma ∷ rest

-- hints that are done, each with a comma behind it
abbrev pub before_hints : List Cited → List ℕ → List ℕ
before_hints [] rest = rest
before_hints (h ∷ hs) rest = hint h (byte.comma ∷ before_hints hs rest)

abbrev pub read_hints : Bool → List Cited → List ℕ → List ℕ
read_hints true hs rest = hints hs rest
read_hints false hs rest = before_hints hs rest

-- these hints have been read
pub record HasHints (list : List GroundHint) (ended : Bool) (bytes rest : List ℕ) : Type 0 where
  pub is : bytes ≡ read_hints ended (map hint_of list) rest
  pub printable : list_all hint_is_printable (map hint_of list) ≡ true
  pub some : ended ≡ true → list ≢ []

-- no hint of a list is at the front of the text
abbrev pub NoHintHead : List ℕ → Type 0
NoHintHead rest = (h : Cited) (hs : List Cited) (after : List ℕ) → hint_is_printable h ≡ true → list_all hint_is_printable hs ≡ true → rest ≢ hint h (more_hints hs after)

-- no hints and the marks that end them are at the front of the text
abbrev pub NoHints : List ℕ → Type 0
NoHints bytes = (hs : List Cited) (rest : List ℕ) → hints_are_printable hs ≡ true → bytes ≢ hints hs rest
