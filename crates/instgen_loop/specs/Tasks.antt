-- What a task asks of its run.
use Rattle.std.specs.Prelude.{◌≤◌, suc, List, IsFalse}
use Rattle.inst_logic.specs.Clauses.{TreeClause}
use Rattle.inst_logic.specs.Measure.{is_function_free}
use Rattle.inst_calculus.specs.Axioms.{with_axioms}
use Rattle.instgen_run.specs.declared.event.Event.{Event}
use Rattle.instgen_loop.specs.declared.outcome.Outcome.{Outcome}
use Rattle.instgen_loop.specs.declared.task.Task.{Task}
use Rattle.instgen_loop.specs.Outcomes.{IsOutcome, appended_count}

-- the problem's clauses and their axioms of equality
abbrev pub all_clauses : Task → List TreeClause
all_clauses t = with_axioms t.problem.now.clauses

abbrev pub IsOutcomeFor : Task → Outcome → Type 0
IsOutcomeFor t o = IsOutcome t.problem.now.clauses t.problem.now.names t.budget o

-- where there are functions, the events append at most one entry more than the budget has symbols
abbrev pub IsWithinBudget : Task → List Event → Type 0
IsWithinBudget t events = IsFalse (is_function_free t.problem.now.clauses) → appended_count events ≤ suc t.budget
