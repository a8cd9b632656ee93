-- What the answer to the formula of a text is for the file that has the text.
use Rattle.std.specs.Prelude.{ℕ, List, Result, Ok, Err}
use Rattle.outside_io.specs.Told.{Told}
use Rattle.dimacs_front.specs.Files.{IsHeld}
use Rattle.dimacs_front.specs.declared.error.DimacsError.TheVariants as fault
use Rattle.dimacs_front.specs.declared.file.SatError.{SatError}
use Rattle.dimacs_front.specs.declared.file.SatError.TheVariants.{Absent, TooLong, ReadFault, Text, Memory}
use Rattle.szs_prove.specs.Formulas.{IsAnsweredFormula, IsFormulaOutcome}
use Rattle.szs_prove.specs.declared.formula.FormulaAnswer.{FormulaAnswer}

pub outcome_of : (old new : Told) (name text : List ℕ) (r : Result FormulaAnswer SatError) → IsHeld old.files name text → IsAnsweredFormula name text r → IsFormulaOutcome old new name r
outcome_of old new name text (Ok a) held h = (text, h.0, held, h.1, h.2)
outcome_of old new name text (Err Absent) held h = absurd h
outcome_of old new name text (Err TooLong) held h = absurd h
outcome_of old new name text (Err ReadFault) held h = absurd h
outcome_of old new name text (Err (Text (fault.Syntax line))) held h = (text, held, h)
outcome_of old new name text (Err (Text (fault.Range line))) held h = (text, held, h)
outcome_of old new name text (Err (Text (fault.Count found))) held h = (text, held, h)
outcome_of old new name text (Err (Text fault.Limit)) held h = (text, held, h)
outcome_of old new name text (Err (Text (fault.Twice line))) held h = (text, held, h)
outcome_of old new name text (Err (Text fault.Memory)) held h = absurd h
outcome_of old new name text (Err Memory) held h = tt
