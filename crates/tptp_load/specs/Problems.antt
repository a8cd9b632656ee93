-- The problem of a file, and why there is none.
use Rattle.std.specs.Prelude.{◌≡◌, ◌≢◌, ℕ, List, not, Option, Some, None, length, map, filter, All, IsTrue, ⊤}
use Rattle.std.specs.List.{list_all}
use Rattle.inst_logic.specs.declared.clause.Problem.{Problem}
use Rattle.inst_logic.specs.WellFormed.{AreFormedClauses}
use Rattle.inst_logic.specs.Printing.{is_readable_name}
use Rattle.inst_logic.specs.Clauses.{canonical_form, IsCanonical}
use Rattle.outside_io.specs.Causes.{Rose}
use Rattle.outside_io.specs.declared.library.NamedFile.{NamedFile}
use Rattle.tptp_read.specs.Names.{clause_is_readable}
use Rattle.tptp_read.specs.declared.text.ReadError.TheVariants as text
use Rattle.tptp_load.specs.Includes.{Stated}
use Rattle.tptp_load.specs.Loading.{gives, refuses, Gives}
use Rattle.tptp_load.specs.declared.error.LoadError.{LoadError}
use Rattle.tptp_load.specs.declared.error.LoadError.TheVariants.{Text, ReadFault, Memory}

-- the statements that give a clause: one that holds always gives none
abbrev pub giving : List Stated → List Stated
giving stated = filter (λ s. not s.always) stated

-- the clauses in canonical form, with the names of their statements
abbrev pub problem_of : List Stated → Problem
problem_of stated = record { clauses = map (λ s. canonical_form s.clause) (giving stated); names = map (λ s. s.name) (giving stated) }

-- the file of this name gives this problem
abbrev pub Loads : List NamedFile → List ℕ → Option (List ℕ) → Problem → Type 0
Loads files name root p = (stated : List Stated) × (used : ℕ) × Gives files name root (gives stated used) × (p ≡ problem_of stated)

-- the file of this name is refused for this
abbrev pub Refuses : List NamedFile → List ℕ → Option (List ℕ) → LoadError → Type 0
Refuses files name root e = Gives files name root (refuses e)

-- what is said of the files, where they are told
abbrev pub Told : Option (List NamedFile) → (List NamedFile → Type 0) → Type 0
Told None P = ⊤
Told (Some files) P = P files

-- why there is no problem; the count of faults goes from before to now. Want of memory is no fault of a text
abbrev pub IsLoadCause : Option (List NamedFile) → ℕ → ℕ → List ℕ → Option (List ℕ) → LoadError → Type 0
IsLoadCause files before now name root ReadFault = Rose before now
IsLoadCause files before now name root Memory = ⊤
IsLoadCause files before now name root (Text file fault) = (fault ≢ text.Memory) × Told files (λ told. Refuses told name root (Text file fault))
IsLoadCause files before now name root e = Told files (λ told. Refuses told name root e)

-- well formed and canonical clauses, a name for each, and names that can be printed and read again
pub record IsGoodProblem (p : Problem) : Type 0 where
  pub formed : AreFormedClauses p.clauses
  pub canonical : All IsCanonical p.clauses
  pub named : length p.names ≡ length p.clauses
  pub symbols : IsTrue (list_all clause_is_readable p.clauses)
  pub names : IsTrue (list_all is_readable_name p.names)
