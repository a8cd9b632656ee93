-- What the parts of loading say of what they add, where the files are told.
use Rattle.std.specs.Prelude.{ℕ, zero, suc, ◌≡◌, ◌≢◌, ◌≤◌, List, [], ◌∷◌, ◌++◌, Option, All, IsTrue, ⊤}
use Rattle.inst_logic.specs.Printing.{is_readable_name}
use Rattle.inst_logic.specs.WellFormed.{IsFormedClause}
use Rattle.outside_io.specs.Causes.{Rose}
use Rattle.outside_io.specs.declared.library.NamedFile.{NamedFile}
use Rattle.tptp_read.specs.Names.{clause_is_readable}
use Rattle.tptp_read.specs.declared.statement.Statement.{Statement}
use Rattle.tptp_read.specs.declared.statement.Statement.TheVariants.{Cnf, Include}
use Rattle.tptp_read.specs.declared.text.ReadError.TheVariants as text
use Rattle.tptp_load.specs.Includes.{Stated}
use Rattle.tptp_load.specs.Loading.{Loaded, gives, refuses, limit, Includer, NoneIncluded, Includes, Loading, HasFault}
use Rattle.tptp_load.specs.Problems.{Told}
use Rattle.tptp_load.specs.declared.error.LoadError.{LoadError}
use Rattle.tptp_load.specs.declared.error.LoadError.TheVariants.{Text, Absent, NotSelected, IncludeDepth, TooLong, ReadFault, Memory}

-- a clause that is well formed, with names that can be printed and read again
pub record IsGoodStated (s : Stated) : Type 0 where
  pub formed : IsFormedClause s.clause
  pub name : IsTrue (is_readable_name s.name)
  pub symbols : IsTrue (clause_is_readable s.clause)

-- what holds of all that was gathered
pub record IsGathered (stated : List Stated) (used : ℕ) : Type 0 where
  pub good : All IsGoodStated stated
  pub within : used ≤ limit

-- what is said of an outcome in these files
abbrev pub Saying : Type 1
Saying = List NamedFile → Loaded → Type 0

-- the statements that a part added, and how many bytes were read by then
abbrev pub Adds : Option (List NamedFile) → Saying → List Stated → List Stated → ℕ → Type 0
Adds files Says before now used = Told files (λ told. (more : List Stated) × (now ≡ before ++ more) × Says told (gives more used))

-- why a part was refused; the count of faults goes from before to now. Want of memory is no fault of a text
abbrev pub IsPartCause : Option (List NamedFile) → Saying → ℕ → ℕ → LoadError → Type 0
IsPartCause files Says before now (Text file fault) = (fault ≢ text.Memory) × Told files (λ told. Says told (refuses (Text file fault)))
IsPartCause files Says before now (Absent wanted) = Told files (λ told. Says told (refuses (Absent wanted)))
IsPartCause files Says before now (NotSelected file wanted) = Told files (λ told. Says told (refuses (NotSelected file wanted)))
IsPartCause files Says before now (IncludeDepth file) = Told files (λ told. Says told (refuses (IncludeDepth file)))
IsPartCause files Says before now TooLong = Told files (λ told. Says told (refuses TooLong))
IsPartCause files Says before now ReadFault = Rose before now
IsPartCause files Says before now Memory = ⊤

-- the includes of a file below which so many levels of includes may stand
abbrev pub Including : List NamedFile → Option (List ℕ) → ℕ → Includer
Including files root zero = NoneIncluded
Including files root (suc levels) = Includes files root (Loading files root levels)

-- what one statement gives
abbrev pub StatementGives : Includer → List ℕ → ℕ → Statement → Loaded → Type 0
StatementGives include from used (Cnf name role always clause) o = o ≡ gives ((record { name = name; always = always; clause = clause }) ∷ []) used
StatementGives include from used (Include file selection) o = include used from file selection o

-- why a text was not read
abbrev pub IsMisread : List ℕ → List ℕ → LoadError → Type 0
IsMisread name bytes (Text file fault) = (file ≡ name) × HasFault bytes fault
IsMisread name bytes (Absent wanted) = ⊥
IsMisread name bytes (NotSelected file wanted) = ⊥
IsMisread name bytes (IncludeDepth file) = ⊥
IsMisread name bytes TooLong = ⊥
IsMisread name bytes ReadFault = ⊥
IsMisread name bytes Memory = ⊤
