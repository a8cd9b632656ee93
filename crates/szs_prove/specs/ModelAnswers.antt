-- The model of the problem of a file with so many elements, or that there is none.
use Rattle.std.specs.Prelude.{◌≡◌, ◌⊎◌, ◌++◌, ℕ, List, Option}
use Rattle.inst_logic.specs.declared.clause.Problem.{Problem}
use Rattle.outside_io.specs.declared.library.NamedFile.{NamedFile}
use Rattle.cert_format.specs.Certificate.{Refutation, refutation}
use Rattle.cert_format.specs.Text.{written_text}
use Rattle.finite_model.specs.declared.tables.Tables.{Tables}
use Rattle.finite_model.specs.Tables.{IsModel, IsTooWide}
use Rattle.finite_model.specs.Flattening.{flattened, flattened_names}
use Rattle.szs_prove.specs.Answers.{IsProblemOf, ReasonRelation}
use Rattle.szs_prove.specs.Decisions.{IsShownBy}
use Rattle.szs_prove.specs.TableTexts.{no_tables_line, tables_text}
use Rattle.szs_prove.specs.declared.refusal.Reason.TheVariants.{OutOfBudget, TooWide, Functions}

-- the flattened form of the problem for so many elements
abbrev pub flattened_problem : ℕ → Problem → Problem
flattened_problem k p = record { clauses = flattened k p.clauses; names = flattened_names k p.clauses p.names }

-- tables over k elements make every clause true, and the text is theirs
pub record IsTablesText (k : ℕ) (file : List ℕ) (p : Problem) (text : List ℕ) : Type 0 where
  pub tables : Tables
  pub model : IsModel k p.clauses tables
  pub is : text ≡ tables_text k file tables

-- No tables over k elements do. The text is the line that says so, and behind it that of a refutation of the flattened form, which
-- comes from a run.
pub record IsNoTablesText (k : ℕ) (file : List ℕ) (p : Problem) (text : List ℕ) : Type 0 where
  pub none : (tables : Tables) → ¬ IsModel k p.clauses tables
  pub found : Refutation
  pub shown : IsShownBy (flattened_problem k p) (refutation found)
  pub is : text ≡ no_tables_line k file ++ written_text file (refutation found)

-- the tables are not too wide, and the text is one of the two
pub record IsModelText (k : ℕ) (file : List ℕ) (p : Problem) (text : List ℕ) : Type 0 where
  pub narrow : ¬ IsTooWide k p.clauses
  pub said : IsTablesText k file p text ⊎ IsNoTablesText k file p text

-- the answer for the problem of the file
abbrev pub HasModelAnswer : Option (List NamedFile) → ℕ → List ℕ → Option (List ℕ) → List ℕ → Type 0
HasModelAnswer files k file root text = (p : Problem) × IsProblemOf files file root p × IsModelText k file p text

-- the tables over so many elements would have more than a million cells
abbrev pub IsUnmodelled : ℕ → ReasonRelation
IsUnmodelled k p (OutOfBudget all left wanted) = ⊥
IsUnmodelled k p TooWide = IsTooWide k p.clauses
IsUnmodelled k p (Functions clause) = ⊥
