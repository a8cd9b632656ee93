-- What an ending leaves to its outcome.
use Rattle.std.specs.Prelude.{◌≡◌, ℕ, List, [], length, map, IsTrue, All}
use Rattle.inst_logic.specs.Clauses.{TreeClause}
use Rattle.inst_logic.specs.Printing.{is_readable_name}
use Rattle.inst_logic.specs.WellFormed.{is_constant}
use Rattle.inst_calculus.specs.Abstraction.{IsBot, AreAbstracted}
use Rattle.inst_calculus.specs.Axioms.{equality_axioms, with_axioms}
use Rattle.inst_machine.specs.Machine.{State}
use Rattle.inst_machine.specs.Replay.{Replays}
use Rattle.cert_format.specs.Printable.{IsPrintableClause}
use Rattle.prop_logic.specs.Solving.{Refutes}
use Rattle.ground_abs.specs.Abstracts.{atoms_in, AreAtomsIn}
use Rattle.instgen_run.specs.declared.event.Event.{Event}
use Rattle.instgen_loop.specs.declared.ending.Ending.{Ending}
use Rattle.instgen_loop.specs.declared.ending.Ending.TheVariants.{Refuted, Saturated, OutOfBudget}
use Rattle.instgen_loop.specs.declared.refuted.RefutedRun.{RefutedRun}
use Rattle.instgen_loop.specs.declared.task.Task.{Task}
use Rattle.instgen_run.specs.Clauses.{AreEntries, Item, entries_in, clauses_in}
use Rattle.instgen_loop.specs.Ending.{saturation_from}
use Rattle.instgen_run.specs.Grounds.{IsUsed}
use Rattle.instgen_run.specs.Logs.{Log}
use Rattle.instgen_run.specs.Marks.{events_of, IsLogOf}
use Rattle.instgen_loop.specs.Outcomes.{IsSaturatedRun, IsStoppedRun}
use Rattle.instgen_run.specs.Running.{event_in, IsEventOf}
use Rattle.instgen_loop.specs.Starting.{AreGiven}

-- The journal replays to the entries, of which the numbered clauses are the abstractions, and the derivation refutes these. The
-- clauses and their axioms are in the bank, and all can be printed.
pub record IsRefuted (clauses : List TreeClause) (names : List (List ℕ)) (r : RefutedRun) (journal : List Event) : Type 0 where
  pub state : State
  pub replays : Replays r.abstraction.bot (with_axioms clauses) (map (event_in r.remains.bank) journal) state
  pub members : state.entries ≡ entries_in r.remains.bank r.remains.clauses.entries
  pub events : All (IsEventOf r.remains.bank) journal
  pub entries : AreEntries r.remains.bank r.remains.clauses.entries
  pub inputs : AreGiven r.remains.bank r.remains.given.inputs clauses
  pub axioms : AreGiven r.remains.bank r.remains.given.axioms (equality_axioms clauses)
  pub bot : IsBot clauses r.abstraction.bot
  pub constant : IsTrue (is_constant r.abstraction.bot)
  pub bot_name : IsTrue (is_readable_name r.abstraction.bot.name)
  pub fits : AreAtomsIn r.remains.bank r.abstraction.ids
  pub same : AreAbstracted r.abstraction.bot (atoms_in r.remains.bank r.abstraction.ids) r.literals (clauses_in r.remains.bank r.remains.clauses.entries)
  pub used : All (IsUsed r.abstraction.bot (clauses_in r.remains.bank r.remains.clauses.entries)) (atoms_in r.remains.bank r.abstraction.ids)
  pub refutes : Refutes (length r.abstraction.ids) r.literals [] [] r.derivation
  pub printable : All IsPrintableClause clauses
  pub named : length names ≡ length clauses
  pub readable : All (λ n. IsTrue (is_readable_name n)) names

-- the outcome that is made of the ending holds what it says
abbrev pub IsEnding : Task → Ending → List Event → Type 0
IsEnding t (Refuted r) journal = IsRefuted t.problem.now.clauses t.problem.now.names r journal
IsEnding t (Saturated r) journal = IsSaturatedRun t.problem.now.clauses t.problem.now.names (saturation_from t.problem.now.names r) journal
IsEnding t (OutOfBudget left wanted r) journal = IsStoppedRun t.problem.now.clauses t.problem.now.names t.budget left wanted (saturation_from t.problem.now.names r) journal

-- what the ending leaves of the run's entries
abbrev pub entries_left : Ending → List Item
entries_left (Refuted r) = r.remains.clauses.entries
entries_left (Saturated r) = r.remains.clauses.entries
entries_left (OutOfBudget left wanted r) = r.remains.clauses.entries

-- the log is of these entries, and the ending is one after the events that they tell
abbrev pub IsEndingAfter : Task → Ending → Log → Type 0
IsEndingAfter t e l = IsLogOf l (entries_left e) × IsEnding t e (events_of l (entries_left e))
