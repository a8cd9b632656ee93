-- What reading one file whole says of it.
use Rattle.std.specs.Prelude.{ℕ, ◌≡◌, ◌+◌, ◌<◌, ◌≤◌, List, Option, None, Some, ⊤, length}
use Rattle.outside_io.specs.Causes.{Rose}
use Rattle.outside_io.specs.Files.{bytes_named}
use Rattle.outside_io.specs.declared.library.NamedFile.{NamedFile}
use Rattle.tptp_load.specs.Loading.{limit}
use Rattle.tptp_load.specs.declared.error.LoadError.{LoadError}
use Rattle.tptp_load.specs.declared.error.LoadError.TheVariants.{Text, Absent, NotSelected, IncludeDepth, TooLong, ReadFault, Memory}

-- where the files are told, the file of this name has these bytes, or there is none; they are not too many
abbrev pub IsHeld : Option (List NamedFile) → List ℕ → ℕ → Option (List ℕ) → Type 0
IsHeld None name used None = ⊤
IsHeld None name used (Some bytes) = used + length bytes ≤ limit
IsHeld (Some files) name used None = bytes_named files name ≡ None
IsHeld (Some files) name used (Some bytes) = (used + length bytes ≤ limit) × (bytes_named files name ≡ Some bytes)

-- why the file of this name was not read
abbrev pub IsUnread : Option (List NamedFile) → ℕ → ℕ → List ℕ → ℕ → LoadError → Type 0
IsUnread files before now name used (Text file fault) = ⊥
IsUnread files before now name used (Absent wanted) = ⊥
IsUnread files before now name used (NotSelected file wanted) = ⊥
IsUnread files before now name used (IncludeDepth file) = ⊥
IsUnread None before now name used TooLong = ⊤
IsUnread (Some files) before now name used TooLong = (bytes : List ℕ) × (bytes_named files name ≡ Some bytes) × (limit < used + length bytes)
IsUnread files before now name used ReadFault = Rose before now
IsUnread files before now name used Memory = ⊤
