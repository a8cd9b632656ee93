-- Whole texts.
use Rattle.std.specs.Prelude.{◌≡◌, ℕ, zero, suc, List, [], ◌∷◌, ⊤}
use Rattle.inst_logic.specs.WellFormed.{IsFormedClause}
use Rattle.tptp_read.specs.Stream.{IsDone}
use Rattle.tptp_read.specs.declared.statement.Statement.{Statement}
use Rattle.tptp_read.specs.declared.statement.Statement.TheVariants.{Cnf, Include}
use Rattle.tptp_read.specs.declared.text.ReadError.{ReadError}
use Rattle.tptp_read.specs.declared.text.ReadError.TheVariants as errors
use Rattle.tptp_read.specs.Meaning.{Fault, syntax_fault, language, feature, role_fault, limit}
use Rattle.tptp_read.specs.Rules.{IsRead, IsOffence}

-- the whole text is these statements, with blanks and comments between tokens
abbrev pub Readable : List ℕ → List Statement → Type 0
Readable text [] = IsDone text
Readable text (s ∷ ss) = (rest : List ℕ) × IsRead text s rest × Readable rest ss

-- the statements before number k are readable, something other than blanks and comments follows, and it has this fault
abbrev pub Offends : List ℕ → ℕ → Fault → Type 0
Offends text zero e = ⊥
Offends text (suc zero) e = ¬ IsDone text × IsOffence text e
Offends text (suc (suc k)) e = (s : Statement) × (rest : List ℕ) × IsRead text s rest × Offends rest (suc k) e

-- what an error says of the text; want of memory has no cause
abbrev pub IsCause : List ℕ → ReadError → Type 0
IsCause text (errors.Syntax k) = Offends text k syntax_fault
IsCause text (errors.Language k w) = Offends text k (language w)
IsCause text (errors.Feature k w) = Offends text k (feature w)
IsCause text (errors.Role k w) = Offends text k (role_fault w)
IsCause text (errors.Limit k which) = Offends text k (limit which)
IsCause text errors.Memory = ⊤

abbrev pub IsFormedStatement : Statement → Type 0
IsFormedStatement (Cnf name role always clause) = IsFormedClause clause
IsFormedStatement (Include file selection) = ⊤

-- what a text is: its statements, or its first fault and where it is
pub data Outcome : Type 0 where
  readable : List Statement → Outcome
  offends : ℕ → Fault → Outcome

abbrev pub Has : List ℕ → Outcome → Type 0
Has text (readable ss) = Readable text ss
Has text (offends k e) = Offends text k e

-- exactly one of the two holds, for exactly one value
pub record IsDecided (text : List ℕ) : Type 0 where
  pub outcome : Outcome
  pub holds : Has text outcome
  pub only : (o : Outcome) → Has text o → o ≡ outcome
