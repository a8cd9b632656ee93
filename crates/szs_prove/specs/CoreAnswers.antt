-- A core of the problem of a file, or that there is none.
use Rattle.std.specs.Prelude.{◌⊎◌, ℕ, List, Option, IsTrue}
use Rattle.inst_logic.specs.Measure.{is_function_free}
use Rattle.inst_logic.specs.declared.clause.Problem.{Problem}
use Rattle.outside_io.specs.declared.library.NamedFile.{NamedFile}
use Rattle.szs_prove.specs.Answers.{IsProblemOf, ReasonRelation}
use Rattle.szs_prove.specs.Applications.{IsFirstWithFunctions}
use Rattle.szs_prove.specs.CoreTexts.{IsCoreText, IsNoCoreText}
use Rattle.szs_prove.specs.declared.refusal.Reason.TheVariants.{OutOfBudget, TooWide, Functions}

-- a core of the problem of the file, or that there is none, as a text
abbrev pub HasCoreAnswer : Option (List NamedFile) → List ℕ → Option (List ℕ) → List ℕ → Type 0
HasCoreAnswer files file root text = (p : Problem) × IsProblemOf files file root p × IsTrue (is_function_free p.clauses) × (IsCoreText p file text ⊎ IsNoCoreText p file text)

-- a clause has functions, and this is the first one
abbrev pub IsUncored : ReasonRelation
IsUncored p (OutOfBudget all left wanted) = ⊥
IsUncored p TooWide = ⊥
IsUncored p (Functions clause) = IsFirstWithFunctions p.clauses clause
