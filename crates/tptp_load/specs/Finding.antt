-- What looking for the file of an include says.
use Rattle.std.specs.Prelude.{ℕ, ◌≡◌, ◌+◌, ◌<◌, ◌≤◌, List, Option, None, Some, ⊤, length}
use Rattle.outside_io.specs.Causes.{Rose}
use Rattle.outside_io.specs.declared.library.NamedFile.{NamedFile}
use Rattle.tptp_load.specs.Includes.{first_found}
use Rattle.tptp_load.specs.Loading.{limit}
use Rattle.tptp_load.specs.declared.error.LoadError.{LoadError}
use Rattle.tptp_load.specs.declared.error.LoadError.TheVariants.{Text, Absent, NotSelected, IncludeDepth, TooLong, ReadFault, Memory}

-- where the files are told, the file is the first of these names that there is; it is not too long
abbrev pub IsFirst : Option (List NamedFile) → List (List ℕ) → ℕ → Option (List ℕ × List ℕ) → Type 0
IsFirst None names used None = ⊤
IsFirst None names used (Some found) = used + length found.1 ≤ limit
IsFirst (Some files) names used None = first_found files names ≡ None
IsFirst (Some files) names used (Some found) = (used + length found.1 ≤ limit) × (first_found files names ≡ Some found)

-- why none of the files of these names was read
abbrev pub IsNotRead : Option (List NamedFile) → ℕ → ℕ → List (List ℕ) → ℕ → LoadError → Type 0
IsNotRead files before now names used (Text file fault) = ⊥
IsNotRead files before now names used (Absent wanted) = ⊥
IsNotRead files before now names used (NotSelected file wanted) = ⊥
IsNotRead files before now names used (IncludeDepth file) = ⊥
IsNotRead None before now names used TooLong = ⊤
IsNotRead (Some files) before now names used TooLong = (found : List ℕ × List ℕ) × (first_found files names ≡ Some found) × (limit < used + length found.1)
IsNotRead files before now names used ReadFault = Rose before now
IsNotRead files before now names used Memory = ⊤

-- why the file of an include was not read
abbrev pub IsNotFound : Option (List NamedFile) → ℕ → ℕ → List (List ℕ) → List ℕ → ℕ → LoadError → Type 0
IsNotFound files before now names wanted used (Text file fault) = ⊥
IsNotFound None before now names wanted used (Absent w) = w ≡ wanted
IsNotFound (Some files) before now names wanted used (Absent w) = (w ≡ wanted) × (first_found files names ≡ None)
IsNotFound files before now names wanted used (NotSelected file w) = ⊥
IsNotFound files before now names wanted used (IncludeDepth file) = ⊥
IsNotFound None before now names wanted used TooLong = ⊤
IsNotFound (Some files) before now names wanted used TooLong = (found : List ℕ × List ℕ) × (first_found files names ≡ Some found) × (limit < used + length found.1)
IsNotFound files before now names wanted used ReadFault = Rose before now
IsNotFound files before now names wanted used Memory = ⊤
