-- What is told of files that give no answer.
use Rattle.std.specs.Prelude.{ℕ, List, [], ◌∷◌, codes, decimal}
use Rattle.std.specs.List.{concat}
use Rattle.outside_io.specs.declared.notices.Status.{Status}
use Rattle.outside_io.specs.declared.notices.Status.TheVariants.{SyntaxError, InputError, OsError, MemoryOut}
use Rattle.dimacs_front.specs.declared.error.DimacsError.{DimacsError}
use Rattle.dimacs_front.specs.declared.error.DimacsError.TheVariants as fault
use Rattle.dimacs_front.specs.declared.file.SatError.{SatError}
use Rattle.dimacs_front.specs.declared.file.SatError.TheVariants.{Absent, TooLong, ReadFault, Text, Memory}

abbrev pub fault_status : DimacsError → Status
fault_status (fault.Syntax line) = SyntaxError
fault_status (fault.Range line) = InputError
fault_status (fault.Count found) = InputError
fault_status fault.Limit = InputError
fault_status (fault.Twice line) = InputError
fault_status fault.Memory = MemoryOut

abbrev pub refusal_status : SatError → Status
refusal_status Absent = InputError
refusal_status TooLong = InputError
refusal_status ReadFault = OsError
refusal_status (Text e) = fault_status e
refusal_status Memory = MemoryOut

-- the second line for a text that is not read, where there is one
abbrev pub fault_reason : List ℕ → DimacsError → List ℕ
fault_reason name (fault.Syntax line) = concat (codes "% syntax: line " ∷ decimal line ∷ codes " of " ∷ name ∷ codes "\n" ∷ [])
fault_reason name (fault.Range line) = concat (codes "% literal: line " ∷ decimal line ∷ codes " of " ∷ name ∷ codes "\n" ∷ [])
fault_reason name (fault.Count found) = concat (codes "% clauses " ∷ decimal found ∷ codes "\n" ∷ [])
fault_reason name fault.Limit = codes "% limit variables\n"
fault_reason name (fault.Twice line) = concat (codes "% quantified twice: line " ∷ decimal line ∷ codes " of " ∷ name ∷ codes "\n" ∷ [])
fault_reason name fault.Memory = []

-- the second line, where there is one
abbrev pub refusal_reason : List ℕ → SatError → List ℕ
refusal_reason name Absent = concat (codes "% absent: " ∷ name ∷ codes "\n" ∷ [])
refusal_reason name TooLong = codes "% limit bytes\n"
refusal_reason name ReadFault = codes "% read fault\n"
refusal_reason name (Text e) = fault_reason name e
refusal_reason name Memory = []
