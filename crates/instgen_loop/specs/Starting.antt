-- How a run begins, and of which problem it is.
use Rattle.std.specs.Prelude.{◌≡◌, ◌<◌, ◌^◌, ◌-◌, ℕ, List, [], map, true, false, Some, None, All, IsTrue}
use Rattle.inst_logic.specs.declared.signed.Signed.{Signed}
use Rattle.inst_logic.specs.Clauses.{TreeClause}
use Rattle.inst_logic.specs.Measure.{is_function_free}
use Rattle.inst_logic.specs.Printing.{is_readable_name}
use Rattle.inst_logic.specs.WellFormed.{is_constant}
use Rattle.inst_calculus.specs.Abstraction.{IsBot}
use Rattle.inst_calculus.specs.Axioms.{equality_axioms}
use Rattle.term_bank.specs.Forest.{Forest, AreFormed, clause_at}
use Rattle.term_index.specs.Pairs.{Posting}
use Rattle.cert_values.specs.Wholes.{IsWholeClause}
use Rattle.instgen_loop.specs.declared.start.Given.{Given}
use Rattle.instgen_run.specs.declared.state.Run.{Run}
use Rattle.instgen_run.specs.Logs.{no_solves}
use Rattle.instgen_run.specs.Loops.{items}

-- the solver has no atoms and no clauses
abbrev pub IsNew : {S : Type 0} → (S → ℕ) → (S → List (List (Signed ℕ))) → S → Type 0
IsNew atoms added s = (atoms s ≡ 0) × (added s ≡ [])

-- nothing happened yet, and there are no entries
pub record IsFresh {S I C : Type 0} (atoms : S → ℕ) (added : S → List (List (Signed ℕ))) (pairs : I → List Posting) (r : Run S I C) : Type 0 where
  pub bank : AreFormed r.entries.bank
  pub entries : items r ≡ []
  pub first : pairs r.entries.first ≡ []
  pub has_empty : r.entries.has_empty ≡ false
  pub ids : r.ground.abstraction.ids ≡ []
  pub notes : r.ground.abstraction.notes ≡ []
  pub no_atoms : atoms r.ground.solver ≡ 0
  pub none_added : added r.ground.solver ≡ []
  pub literals : r.ground.literals ≡ []
  pub valuation : r.ground.valuation ≡ []
  pub selection : r.selection ≡ record { places = []; users = [] }
  pub queue : r.queue.items ≡ []
  pub held : r.held.items ≡ []
  pub log : r.log ≡ no_solves
  pub known : r.known.clauses ≡ []

-- the budget applies where there are functions
pub record IsAllowed {S I C : Type 0} (r : Run S I C) (clauses : List TreeClause) (budget : ℕ) : Type 0 where
  pub free : is_function_free clauses ≡ true → r.left ≡ None
  pub budgeted : is_function_free clauses ≡ false → r.left ≡ Some budget
  pub light : budget < 2 ^ 64 - 1

-- the ids are those of atoms of the bank, and stand for these clauses
pub record AreGiven (f : Forest) (ids : List (List (Signed ℕ))) (cs : List TreeClause) : Type 0 where
  pub whole : All (IsWholeClause f) ids
  pub same : map (clause_at f) ids ≡ cs

-- the lists are those of the problem over the run's bank, and the run's constant is that of its clauses and can be printed
pub record IsOfProblem {S I C : Type 0} (r : Run S I C) (g : Given) (clauses : List TreeClause) : Type 0 where
  pub inputs : AreGiven r.entries.bank g.inputs clauses
  pub axioms : AreGiven r.entries.bank g.axioms (equality_axioms clauses)
  pub bot : IsBot clauses r.ground.abstraction.bot
  pub constant : IsTrue (is_constant r.ground.abstraction.bot)
  pub readable : IsTrue (is_readable_name r.ground.abstraction.bot.name)
