-- What is answered of problems, and why nothing is.
use Rattle.std.specs.Prelude.{ℕ, ◌≡◌, ⊤, List, Option, Result, Ok, Err}
use Rattle.inst_logic.specs.declared.clause.Problem.{Problem}
use Rattle.outside_io.specs.Told.{Told}
use Rattle.outside_io.specs.declared.library.NamedFile.{NamedFile}
use Rattle.tptp_load.specs.Problems.{IsGoodProblem, IsLoadCause, Loads}
use Rattle.tptp_load.specs.Problems as load
use Rattle.cert_format.specs.Certificate.{Certificate}
use Rattle.cert_format.specs.Certifies.{Certifies}
use Rattle.cert_format.specs.Formats.{written_format}
use Rattle.cert_format.specs.Printable.{IsTextName}
use Rattle.cert_format.specs.Text.{written_text}
use Rattle.szs_prove.specs.Decisions.{IsReplayed, IsStopped}
use Rattle.szs_prove.specs.declared.refusal.Reason.{Reason}
use Rattle.szs_prove.specs.declared.refusal.Reason.TheVariants.{OutOfBudget, TooWide, Functions}
use Rattle.szs_prove.specs.declared.refusal.Refusal.{Refusal}
use Rattle.szs_prove.specs.declared.refusal.Refusal.TheVariants.{Load, Unanswered, Memory as Wanting}

-- what the library tells before the call and after it
pub record Reading : Type 0 where
  pub old : Told
  pub new : Told

abbrev pub reading : Told → Told → Reading
reading old new = record { old = old; new = new }

-- the library was not called
abbrev pub IsUntouched : Reading → Type 0
IsUntouched read = read.new ≡ read.old

-- ---- the problem of a file

-- a good problem, and that of the file where the files are told
pub record IsProblemOf (files : Option (List NamedFile)) (file : List ℕ) (root : Option (List ℕ)) (p : Problem) : Type 0 where
  pub good : IsGoodProblem p
  pub loads : load.Told files (λ told. Loads told file root p)

-- a relation between problems and reasons why they have no answer
abbrev pub ReasonRelation : Type 1
ReasonRelation = Problem → Reason → Type 0

-- it has none for one of these reasons, or memory ran out
abbrev pub IsUnanswered : ReasonRelation → Problem → Refusal → Type 0
IsUnanswered bars p (Load e) = ⊥
IsUnanswered bars p (Unanswered reason) = bars p reason
IsUnanswered bars p Wanting = ⊤

-- the file gives no problem, or memory ran out
abbrev pub IsUnloaded : Reading → List ℕ → Option (List ℕ) → Refusal → Type 0
IsUnloaded read file root (Load e) = IsLoadCause read.old.files read.old.faults read.new.faults file root e
IsUnloaded read file root (Unanswered reason) = ⊥
IsUnloaded read file root Wanting = ⊤

-- the file gives no problem, or its problem has no answer for one of these reasons, or memory ran out
abbrev pub IsRefusal : ReasonRelation → Reading → List ℕ → Option (List ℕ) → Refusal → Type 0
IsRefusal bars read file root (Load e) = IsLoadCause read.old.files read.old.faults read.new.faults file root e
IsRefusal bars read file root (Unanswered reason) = (p : Problem) × IsProblemOf read.old.files file root p × bars p reason
IsRefusal bars read file root Wanting = ⊤

-- the text is such an answer for the problem of the file, or it is why there is none
abbrev pub IsAnswered : (List ℕ → Type 0) → ReasonRelation → Reading → List ℕ → Option (List ℕ) → Result (List ℕ) Refusal → Type 0
IsAnswered answers bars read file root (Ok text) = answers text
IsAnswered answers bars read file root (Err why) = IsRefusal bars read file root why

-- ---- prove

-- The certificate is one of the problem of the file, which shows what its status says, and its members are the entries of a run
-- on that problem.
pub record IsVerdict (files : Option (List NamedFile)) (file : List ℕ) (root : Option (List ℕ)) (c : Certificate) : Type 0 where
  pub problem : Problem
  pub is_problem : IsProblemOf files file root problem
  pub certifies : Certifies problem written_format c
  pub replayed : IsReplayed problem c
  pub name : IsTextName file

-- the text is that of a certificate for the problem of the file
abbrev pub HasVerdict : Option (List NamedFile) → List ℕ → Option (List ℕ) → List ℕ → Type 0
HasVerdict files file root text = (c : Certificate) × IsVerdict files file root c × (text ≡ written_text file c)

-- a run on the problem of the file with this budget ends for want of it
pub record IsOutOfBudget (files : Option (List NamedFile)) (file : List ℕ) (root : Option (List ℕ)) (budget left wanted : ℕ) : Type 0 where
  pub problem : Problem
  pub is_problem : IsProblemOf files file root problem
  pub stopped : IsStopped problem budget left wanted

-- a run on the problem with this budget ends for want of it
abbrev pub IsUndecided : ℕ → ReasonRelation
IsUndecided budget p (OutOfBudget all left wanted) = (all ≡ budget) × IsStopped p budget left wanted
IsUndecided budget p TooWide = ⊥
IsUndecided budget p (Functions clause) = ⊥

-- the text of a verdict on the problem of the file, or why there is none
abbrev pub IsProof : Reading → List ℕ → Option (List ℕ) → ℕ → Result (List ℕ) Refusal → Type 0
IsProof read file root budget = IsAnswered (HasVerdict read.old.files file root) (IsUndecided budget) read file root
