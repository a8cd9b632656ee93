-- What the answer to the text of a file is for the file.
use Rattle.std.specs.Prelude.{ℕ, List, Result, Ok, Err}
use Rattle.outside_io.specs.Told.{Told}
use Rattle.dimacs_front.specs.Files.{IsAnsweredText, IsHeld, IsOutcome}
use Rattle.dimacs_front.specs.declared.answers.SatAnswer.{SatAnswer}
use Rattle.dimacs_front.specs.declared.error.DimacsError.TheVariants as fault
use Rattle.dimacs_front.specs.declared.file.SatError.{SatError}
use Rattle.dimacs_front.specs.declared.file.SatError.TheVariants.{Absent, TooLong, ReadFault, Text, Memory}

pub outcome_of : (old new : Told) (name text : List ℕ) (r : Result SatAnswer SatError) → IsHeld old.files name text → IsAnsweredText text r → IsOutcome old new name r
outcome_of old new name text (Ok a) held h = (text, h.0, held, h.1, h.2)
outcome_of old new name text (Err Absent) held h = absurd h
outcome_of old new name text (Err TooLong) held h = absurd h
outcome_of old new name text (Err ReadFault) held h = absurd h
outcome_of old new name text (Err (Text (fault.Syntax line))) held h = (text, held, h)
outcome_of old new name text (Err (Text (fault.Range line))) held h = (text, held, h)
outcome_of old new name text (Err (Text (fault.Count found))) held h = (text, held, h)
outcome_of old new name text (Err (Text fault.Limit)) held h = (text, held, h)
outcome_of old new name text (Err (Text (fault.Twice line))) held h = (text, held, h)
outcome_of old new name text (Err (Text fault.Memory)) held h = absurd h
outcome_of old new name text (Err Memory) held h = tt
