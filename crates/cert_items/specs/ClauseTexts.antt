-- Clauses at the front of a text, literal by literal.
use Rattle.std.specs.Prelude.{◌≡◌, ◌≢◌, ℕ, List, [], ◌∷◌, map, Bool, true, false}
use Rattle.inst_logic.specs.declared.signed.Signed.{Signed}
use Rattle.term_bank.specs.Forest.{Forest, IsClauseAt}
use Rattle.cert_format.specs.Forms.{Form, form_text, form_atom, forms_text, ArePrintableForms}
use Rattle.inst_logic.specs.Codes as byte

-- a literal that ends the clause, or has another one behind it
abbrev pub ended_by : Bool → List ℕ → List ℕ
ended_by true rest = byte.comma ∷ rest
ended_by false rest = byte.space ∷ byte.bar ∷ byte.space ∷ rest

-- forms that are done, each with ` | ` behind it
abbrev pub before_forms : List Form → List ℕ → List ℕ
before_forms [] rest = rest
before_forms (f ∷ fs) rest = form_text f (byte.space ∷ byte.bar ∷ byte.space ∷ before_forms fs rest)

-- these forms have been read
abbrev pub read_by : Bool → List Form → List ℕ → List ℕ
read_by true fs rest = forms_text fs rest
read_by false fs rest = before_forms fs rest

pub record HasRead (f : Forest) (c : List (Signed ℕ)) (ended : Bool) (bytes rest : List ℕ) : Type 0 where
  pub forms : List Form
  pub clause : IsClauseAt f c (map form_atom forms)
  pub is : bytes ≡ read_by ended forms rest
  pub printable : ArePrintableForms forms

-- the clause of ids is at the front of the text, with a comma behind it
abbrev pub IsClauseText : Forest → List (Signed ℕ) → List ℕ → List ℕ → Type 0
IsClauseText f c bytes rest = HasRead f c true bytes rest

abbrev pub NoClause : List ℕ → Type 0
NoClause bytes = (forms : List Form) (rest : List ℕ) → ArePrintableForms forms → bytes ≢ forms_text forms rest
