-- Terms at the front of a text, but for the symbol at the root.
use Rattle.std.specs.Prelude.{◌≡◌, ◌≢◌, ℕ, ◌<◌, ◌^◌, List, [], ◌∷◌, ◌++◌, length, map, decimal, IsTrue}
use Rattle.inst_logic.specs.declared.symbol.Kind.TheVariants.{Equality}
use Rattle.inst_logic.specs.Tree.{Tree, app, of_list}
use Rattle.inst_logic.specs.declared.signed.Signed.{Signed}
use Rattle.term_bank.specs.Forest.{Forest, tree_at, AreIds}
use Rattle.cert_format.specs.Forms.{Form, form_text, form_atom, form_is_printable, FollowsForm, more_forms, ArePrintableForms}
use Rattle.cert_items.specs.declared.literals.Root.{Root}
use Rattle.cert_items.specs.declared.literals.Root.TheVariants.{Variable, Application}
use Rattle.cert_format.specs.Names.{IsNameText}
use Rattle.cert_format.specs.Runs.{Ends}
use Rattle.cert_format.specs.Spelling.{term, arguments, goes_on, Follows, is_printable}
use Rattle.cert_items.specs.Reading.{ArePrintable}
use Rattle.inst_logic.specs.Codes as byte

pub record IsVariableAt (n : ℕ) (bytes rest : List ℕ) : Type 0 where
  pub is : bytes ≡ 88 ∷ decimal n ++ rest
  pub fits : n < 2 ^ 64
  pub ends : Ends goes_on rest

pub record IsApplicationAt (f : Forest) (text ids bytes rest : List ℕ) : Type 0 where
  pub is : bytes ≡ text ++ arguments (of_list (map (tree_at f) ids)) rest
  pub name : IsNameText text
  pub within : AreIds f ids
  pub printable : ArePrintable (map (tree_at f) ids)
  pub ends : ids ≡ [] → Ends goes_on rest

abbrev pub IsRootAt : Forest → Root → List ℕ → List ℕ → List ℕ → Type 0
IsRootAt f (Variable n) ids bytes rest = IsVariableAt n bytes rest
IsRootAt f (Application name) ids bytes rest = IsApplicationAt f name.now ids bytes rest

-- what is said of a root where its term is made
abbrev pub IsRoot : Forest → Root → List ℕ → Type 0
IsRoot f (Variable n) ids = n < 2 ^ 64
IsRoot f (Application name) ids = IsNameText name.now × AreIds f ids × ArePrintable (map (tree_at f) ids)

-- the term with this id is at the front of the text
pub record IsTermAt (f : Forest) (id : ℕ) (bytes rest : List ℕ) : Type 0 where
  pub within : id < length f.trees
  pub is : bytes ≡ term (tree_at f id) rest
  pub printable : IsTrue (is_printable (tree_at f id))
  pub follows : Follows (tree_at f id) rest

-- the atom of an equality
abbrev pub equality_atom : Tree → Tree → Tree
equality_atom t u = app (record { kind = Equality; name = byte.equals_sign ∷ []; arity = 2 }) (of_list (t ∷ u ∷ []))

-- the literal of ids is at the front of the text
pub record IsLiteralAt (f : Forest) (l : Signed ℕ) (bytes rest : List ℕ) : Type 0 where
  pub form : Form
  pub within : l.atom < length f.trees
  pub literal : record { positive = l.positive; atom = tree_at f l.atom } ≡ form_atom form
  pub is : bytes ≡ form_text form rest
  pub printable : IsTrue (form_is_printable form)
  pub follows : FollowsForm form rest

-- no literal is at the front of the text
abbrev pub NoForm : List ℕ → Type 0
NoForm bytes = (form : Form) (rest : List ℕ) → IsTrue (form_is_printable form) → FollowsForm form rest → bytes ≢ form_text form rest

-- no literal of a clause is at the front of the text
abbrev pub NoFormHead : List ℕ → Type 0
NoFormHead bytes = (form : Form) (others : List Form) (rest : List ℕ) → IsTrue (form_is_printable form) → ArePrintableForms others → bytes ≢ form_text form (more_forms others rest)
