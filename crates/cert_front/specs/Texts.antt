-- What is told of faults.
use Rattle.std.specs.Prelude.{ℕ, List, [], ◌∷◌, codes, decimal}
use Rattle.std.specs.List.{concat}
use Rattle.outside_io.specs.declared.notices.Status.{Status}
use Rattle.outside_io.specs.declared.notices.Status.TheVariants.{SyntaxError, InputError, OsError, MemoryOut}
use Rattle.cert_front.specs.declared.fault.CertFault.{CertFault}
use Rattle.cert_front.specs.declared.fault.CertFault.TheVariants.{Absent, TooLong, ReadFault, Syntax, Version, NoSaturation, Memory}

abbrev pub fault_status : CertFault → Status
fault_status Absent = InputError
fault_status TooLong = InputError
fault_status ReadFault = OsError
fault_status (Syntax line) = SyntaxError
fault_status (Version word) = InputError
fault_status NoSaturation = InputError
fault_status Memory = MemoryOut

-- the second line, where there is one; that of a text has the number of the line that no certificate has there
abbrev pub fault_reason : List ℕ → CertFault → List ℕ
fault_reason name Absent = concat (codes "% absent: " ∷ name ∷ codes "\n" ∷ [])
fault_reason name TooLong = codes "% limit bytes\n"
fault_reason name ReadFault = codes "% read fault\n"
fault_reason name (Syntax line) = concat (codes "% syntax: line " ∷ decimal line ∷ codes " of " ∷ name ∷ codes "\n" ∷ [])
fault_reason name (Version word) = concat (codes "% version: " ∷ word ∷ codes "\n" ∷ [])
fault_reason name NoSaturation = concat (codes "% no saturation: " ∷ name ∷ codes "\n" ∷ [])
fault_reason name Memory = []
