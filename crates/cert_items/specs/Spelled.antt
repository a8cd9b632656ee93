-- What is remembered of the literals that were read.
use Rattle.std.specs.Prelude.{◌≡◌, ℕ, ◌<◌, List, [], length, All, IsTrue}
use Rattle.inst_logic.specs.declared.signed.Signed.{Signed}
use Rattle.term_bank.specs.Forest.{Forest, tree_at}
use Rattle.cert_format.specs.Forms.{Form, form_text, form_atom, form_is_printable}
use Rattle.cert_items.specs.declared.recent.Spelled.{Spelled}

-- the text is that of the literal
pub record IsSpelled (f : Forest) (text : List ℕ) (l : Signed ℕ) : Type 0 where
  pub form : Form
  pub within : l.atom < length f.trees
  pub literal : record { positive = l.positive; atom = tree_at f l.atom } ≡ form_atom form
  pub is : text ≡ form_text form []
  pub printable : IsTrue (form_is_printable form)

abbrev pub AreSpelled : Forest → List Spelled → Type 0
AreSpelled f ss = All (λ s. IsSpelled f s.text.items s.literal) ss
