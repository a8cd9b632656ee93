-- What a file of a library gives that has at most so many bytes.
use Rattle.std.specs.Prelude.{ℕ, ◌≡◌, ◌<◌, ◌≤◌, List, Option, None, Some, IfSome, ⊤, length}
use Rattle.outside_io.specs.Causes.{Rose}
use Rattle.outside_io.specs.Files.{bytes_named}
use Rattle.outside_io.specs.Told.{Told}
use Rattle.outside_io.specs.declared.library.NamedFile.{NamedFile}
use Rattle.outside_io.specs.declared.whole.FileError.{FileError}
use Rattle.outside_io.specs.declared.whole.FileError.TheVariants.{Absent, TooLong, ReadFault, Memory}

-- where the rest is told, these are all its bytes; they are not too many
abbrev pub IsWhole : ℕ → Option (List ℕ) → List ℕ → Type 0
IsWhole limit None bytes = length bytes ≤ limit
IsWhole limit (Some rest) bytes = (length bytes ≤ limit) × (rest ≡ bytes)

-- the rest is told and has more bytes, or it is not told
abbrev pub IsLonger : ℕ → Option (List ℕ) → Type 0
IsLonger limit None = ⊤
IsLonger limit (Some rest) = limit < length rest

-- why the rest of a file was not read whole
abbrev pub IsCutOff : ℕ → Told → Told → FileError → Type 0
IsCutOff limit old new Absent = ⊥
IsCutOff limit old new TooLong = IsLonger limit old.rest
IsCutOff limit old new ReadFault = Rose old.faults new.faults
IsCutOff limit old new Memory = ⊤

-- where the files are told, the file of this name has these bytes; they are not too many
abbrev pub IsHeld : ℕ → Option (List NamedFile) → List ℕ → List ℕ → Type 0
IsHeld limit None name bytes = length bytes ≤ limit
IsHeld limit (Some files) name bytes = (length bytes ≤ limit) × (bytes_named files name ≡ Some bytes)

-- there is no file of this name
abbrev pub IsAbsent : List ℕ → List NamedFile → Type 0
IsAbsent name files = bytes_named files name ≡ None

-- the file of this name has more bytes
abbrev pub IsLong : ℕ → List ℕ → List NamedFile → Type 0
IsLong limit name files = (bytes : List ℕ) × (bytes_named files name ≡ Some bytes) × (limit < length bytes)

-- why the bytes of the file of this name were not read
abbrev pub IsUnread : ℕ → Told → Told → List ℕ → FileError → Type 0
IsUnread limit old new name Absent = IfSome old.files (IsAbsent name)
IsUnread limit old new name TooLong = IfSome old.files (IsLong limit name)
IsUnread limit old new name ReadFault = Rose old.faults new.faults
IsUnread limit old new name Memory = ⊤
