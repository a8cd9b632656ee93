-- Problems of some of the clauses of a problem, and what is decided of them.
use Rattle.std.specs.Prelude.{◌≡◌, ℕ, List, length, filter_map, Bool, IsTrue, Option, Some, None}
use Rattle.inst_logic.specs.declared.clause.Problem.{Problem}
use Rattle.inst_logic.specs.Clauses.{TreeClause}
use Rattle.inst_logic.specs.Derivations.{at_number}
use Rattle.inst_logic.specs.Measure.{is_function_free}
use Rattle.core_min.specs.Cores.{clauses_at, HasRefutation, HasSelection}
use Rattle.cert_format.specs.Printable.{IsPrintableProblem}

-- the problem of the clauses at these places, with their names
abbrev pub problem_at : Problem → List ℕ → Problem
problem_at p places = record { clauses = clauses_at p.clauses places; names = filter_map (at_number p.names) places }

-- each run on the problem ends with a certificate that can be printed
pub record IsDecidable (p : Problem) : Type 0 where
  pub printable : IsPrintableProblem p
  pub function_free : IsTrue (is_function_free p.clauses)

-- The clauses are satisfiable, or refuted, and then there is a mark for each.
abbrev pub IsSettled : List TreeClause → Option (List Bool) → Type 0
IsSettled cs None = HasSelection cs
IsSettled cs (Some marks) = HasRefutation cs × (length marks ≡ length cs)
