-- What the answers to quantified formulas say.
use Rattle.std.specs.Prelude.{ℕ, ◌≡◌, List, ◌++◌, Option, Result, Ok, Err, ⊤, true, false, codes}
use Rattle.inst_logic.specs.declared.clause.Problem.{Problem}
use Rattle.outside_io.specs.Told.{Told}
use Rattle.outside_io.specs.declared.library.NamedFile.{NamedFile}
use Rattle.cert_format.specs.Certificate.{Certificate}
use Rattle.cert_format.specs.Printable.{IsTextName}
use Rattle.cert_format.specs.Text.{written_text}
use Rattle.qbf_logic.specs.Formulas.{Values, value}
use Rattle.qbf_logic.specs.Translation.{translation, translation_names}
use Rattle.dimacs_front.specs.Files.{IsHeld, IsUnread}
use Rattle.dimacs_front.specs.FormulaRefusals.{IsFormulaRefusal}
use Rattle.dimacs_front.specs.Qdimacs.{IsQdimacs}
use Rattle.dimacs_front.specs.declared.cnf.Qbf.{Qbf}
use Rattle.dimacs_front.specs.declared.error.DimacsError.{DimacsError}
use Rattle.dimacs_front.specs.declared.error.DimacsError.TheVariants as fault
use Rattle.dimacs_front.specs.declared.file.SatError.{SatError}
use Rattle.dimacs_front.specs.declared.file.SatError.TheVariants.{Absent, TooLong, ReadFault, Text, Memory}
use Rattle.szs_prove.specs.Decisions.{IsShownBy}
use Rattle.szs_prove.specs.declared.formula.FormulaAnswer.{FormulaAnswer}
use Rattle.szs_prove.specs.declared.formula.FormulaAnswer.TheVariants.{True, False}

-- some truth values of the variables without a quantifier make the formula true
abbrev pub IsTrueFormula : Qbf → Type 0
IsTrueFormula q = (values : Values) × (value q.prefix q.matrix.clauses values ≡ true)

-- all of them make it false
abbrev pub IsFalseFormula : Qbf → Type 0
IsFalseFormula q = (values : Values) → value q.prefix q.matrix.clauses values ≡ false

-- the line, and behind it, under the file's name, the text of a certificate of the formula's problem, which comes from a run
pub record IsFormulaText (file line : List ℕ) (q : Qbf) (text : List ℕ) : Type 0 where
  pub problem : Problem
  pub translated : problem.clauses ≡ translation q.prefix q.matrix.clauses
  pub named : problem.names ≡ translation_names q.matrix.clauses
  pub certificate : Certificate
  pub shown : IsShownBy problem certificate
  pub name : IsTextName file
  pub is : text ≡ line ++ written_text file certificate

abbrev pub IsFormulaAnswer : List ℕ → Qbf → FormulaAnswer → Type 0
IsFormulaAnswer file q (True text) = IsTrueFormula q × IsFormulaText file (codes "s TRUE\n") q text
IsFormulaAnswer file q (False text) = IsFalseFormula q × IsFormulaText file (codes "s FALSE\n") q text

-- the text is read, and the answer is one for its formula; or the text is refused, or memory was wanted
abbrev pub IsAnsweredFormula : List ℕ → List ℕ → Result FormulaAnswer SatError → Type 0
IsAnsweredFormula file text (Ok a) = (q : Qbf) × IsQdimacs text q × IsFormulaAnswer file q a
IsAnsweredFormula file text (Err Absent) = ⊥
IsAnsweredFormula file text (Err TooLong) = ⊥
IsAnsweredFormula file text (Err ReadFault) = ⊥
IsAnsweredFormula file text (Err (Text fault.Memory)) = ⊥
IsAnsweredFormula file text (Err (Text e)) = IsFormulaRefusal text e
IsAnsweredFormula file text (Err Memory) = ⊤

-- the file's text is refused as a formula for this, which is not want of memory
abbrev pub IsFormulaRefused : Option (List NamedFile) → List ℕ → DimacsError → Type 0
IsFormulaRefused files name fault.Memory = ⊥
IsFormulaRefused files name e = (bytes : List ℕ) × IsHeld files name bytes × IsFormulaRefusal bytes e

-- The file's text is read, and the answer is one for its formula; or there is a cause why there is no answer.
abbrev pub IsFormulaOutcome : Told → Told → List ℕ → Result FormulaAnswer SatError → Type 0
IsFormulaOutcome old new name (Ok a) = (bytes : List ℕ) × (q : Qbf) × IsHeld old.files name bytes × IsQdimacs bytes q × IsFormulaAnswer name q a
IsFormulaOutcome old new name (Err (Text e)) = IsFormulaRefused old.files name e
IsFormulaOutcome old new name (Err e) = IsUnread old new name e
