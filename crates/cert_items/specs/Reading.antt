-- What has been read of the terms of a text.
use Rattle.std.specs.Prelude.{◌≡◌, ◌≢◌, ℕ, ◌+◌, List, [], ◌∷◌, ◌++◌, length, map, Bool, true, false, IsTrue}
use Rattle.std.specs.List.{list_all}
use Rattle.inst_logic.specs.declared.symbol.Kind.{Kind}
use Rattle.inst_logic.specs.Tree.{Tree, app, of_list}
use Rattle.inst_logic.specs.Printing.{name_text, is_readable_name}
use Rattle.term_bank.specs.Forest.{Forest, tree_at, IsAt, AreIds}
use Rattle.cert_items.specs.declared.terms.Open.{Open}
use Rattle.cert_items.specs.declared.terms.Left.{Left}
use Rattle.cert_format.specs.Names.{IsNameText}
use Rattle.cert_format.specs.Spelling.{term, following, is_printable, Follows}
use Rattle.inst_logic.specs.Codes as byte

-- the id is that of an application of the symbol of this kind whose name is printed so
pub record IsApplied (f : Forest) (id : ℕ) (kind : Kind) (text : List ℕ) (args : List Tree) : Type 0 where
  pub name : List ℕ
  pub spelled : text ≡ name_text name
  pub readable : IsTrue (is_readable_name name)
  pub at : IsAt f id (app (record { kind = kind; name = name; arity = length args }) (of_list args))

-- terms that are done, and an application that is open behind them
pub record Part : Type 0 where
  pub done : List Tree
  pub name : List ℕ

-- each term with a comma behind it
abbrev pub before : List Tree → List ℕ → List ℕ
before [] rest = rest
before (t ∷ ts) rest = term t (byte.comma ∷ before ts rest)

-- the text of the parts, the outermost first, and of the terms that are done behind them
abbrev pub opened : List Part → List Tree → List ℕ → List ℕ
opened [] done rest = before done rest
opened (p ∷ ps) done rest = before p.done (p.name ++ byte.opening_parenthesis ∷ opened ps done rest)

-- all terms of the parts
abbrev pub parts_done : List Part → List Tree
parts_done [] = []
parts_done (p ∷ ps) = p.done ++ parts_done ps

-- the open applications are those of the parts, behind so many terms
abbrev pub AreOpen : ℕ → List Open → List Part → Type 0
AreOpen n [] [] = Unit {0}
AreOpen n [] (p ∷ ps) = ⊥
AreOpen n (o ∷ os) [] = ⊥
AreOpen n (o ∷ os) (p ∷ ps) = (o.name.now ≡ p.name) × (o.start ≡ n + length p.done) × AreOpen (n + length p.done) os ps

abbrev pub AreNames : List Part → Type 0
AreNames [] = Unit {0}
AreNames (p ∷ ps) = IsNameText p.name × AreNames ps

abbrev pub ArePrintable : List Tree → Type 0
ArePrintable ts = IsTrue (list_all is_printable ts)

-- behind these parts and terms another term is due
pub record IsDue (f : Forest) (bytes : List ℕ) (opens : List Open) (ids : List ℕ) (rest : List ℕ) : Type 0 where
  pub parts : List Part
  pub done : List Tree
  pub text : bytes ≡ opened parts done rest
  pub open_parts : AreOpen 0 opens parts
  pub names : AreNames parts
  pub within : AreIds f ids
  pub trees : map (tree_at f) ids ≡ parts_done parts ++ done
  pub printable : ArePrintable (parts_done parts ++ done)

-- behind these parts and terms one term more is done
pub record IsRead (f : Forest) (bytes : List ℕ) (opens : List Open) (ids : List ℕ) (rest : List ℕ) : Type 0 where
  pub parts : List Part
  pub done : List Tree
  pub last : Tree
  pub text : bytes ≡ opened parts done (term last rest)
  pub follows : Follows last rest
  pub open_parts : AreOpen 0 opens parts
  pub names : AreNames parts
  pub within : AreIds f ids
  pub trees : map (tree_at f) ids ≡ parts_done parts ++ (done ++ last ∷ [])
  pub printable : ArePrintable (parts_done parts ++ (done ++ last ∷ []))

abbrev pub StateBy : Bool → Forest → List ℕ → List Open → List ℕ → List ℕ → Type 0
StateBy true = IsDue
StateBy false = IsRead

abbrev pub IsState : Forest → List ℕ → List Open → List ℕ → Left → Type 0
IsState f bytes opens ids left = StateBy left.due f bytes opens ids left.rest.now

-- the text begins with these terms, joined by commas, and the closing mark
abbrev pub listed : ℕ → List Tree → List ℕ → List ℕ
listed close [] rest = close ∷ rest
listed close (t ∷ ts) rest = term t (following close (of_list ts) rest)

abbrev pub AreTerms : Forest → List ℕ → ℕ → List ℕ → List ℕ → Type 0
AreTerms f bytes close ids rest = (ids ≢ []) × AreIds f ids × ArePrintable (map (tree_at f) ids) × (bytes ≡ listed close (map (tree_at f) ids) rest)

-- no terms, joined by commas, and the closing mark are at the front of the text
abbrev pub NoTerms : List ℕ → ℕ → Type 0
NoTerms bytes close = (t : Tree) (ts : List Tree) (rest : List ℕ) → ArePrintable (t ∷ ts) → bytes ≢ listed close (t ∷ ts) rest

-- no term is at the front of the text
abbrev pub NoTerm : List ℕ → Type 0
NoTerm bytes = (t : Tree) (rest : List ℕ) → IsTrue (is_printable t) → Follows t rest → bytes ≢ term t rest

-- neither a comma nor the closing parenthesis of an open application is at the front of the text
abbrev pub IsStuck : List Open → List ℕ → Type 0
IsStuck opens rest = ((x : List ℕ) → rest ≢ byte.comma ∷ x) × (opens ≢ [] → (x : List ℕ) → rest ≢ byte.closing_parenthesis ∷ x)
