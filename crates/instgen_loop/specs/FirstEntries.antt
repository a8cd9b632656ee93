-- The first entries of a run, made of clauses in its bank.
use Rattle.std.specs.Prelude.{◌≡◌, ℕ, [], List, length}
use Rattle.inst_logic.specs.declared.signed.Signed.{Signed}
use Rattle.inst_logic.specs.Clauses.{TreeClause}
use Rattle.inst_machine.specs.Machine.{IsFirst}
use Rattle.term_bank.specs.Forest.{Extends}
use Rattle.instgen_select.specs.Queues.{numbers}
use Rattle.instgen_run.specs.declared.state.Run.{Run}
use Rattle.instgen_run.specs.Clauses.{clauses_in}
use Rattle.instgen_run.specs.Grounds.{IsLinked}
use Rattle.instgen_run.specs.Logs.{no_solves}
use Rattle.instgen_run.specs.Loops.{items, after}
use Rattle.instgen_run.specs.Marks.{inferred, origins_of}
use Rattle.instgen_run.specs.Running.{entries_of}

-- the bank may have grown, and the constant, what is left and the bound of lengths are the same
pub record Continues {S I C : Type 0} (old new : Run S I C) : Type 0 where
  pub bank : Extends old.entries.bank new.entries.bank
  pub bot : new.ground.abstraction.bot ≡ old.ground.abstraction.bot
  pub left : new.left ≡ old.left
  pub longest : new.entries.longest ≡ old.entries.longest

-- the entries are the first ones of the clauses, all of them inputs that wait, and nothing else happened yet
pub record IsStarted {S I C : Type 0} (atoms : S → ℕ) (added : S → List (List (Signed ℕ))) (r : Run S I C) (cs : List TreeClause) : Type 0 where
  pub first : IsFirst 1 cs [] (entries_of r)
  pub linked : IsLinked r.entries.bank r.ground (atoms r.ground.solver) (added r.ground.solver) r.ground.abstraction.bot (clauses_in r.entries.bank (items r))
  pub waits : numbers r.queue.items ≡ after 0 (length (items r))
  pub valuation : r.ground.valuation ≡ []
  pub selection : r.selection ≡ record { places = []; users = [] }
  pub held : r.held.items ≡ []
  pub log : r.log ≡ no_solves
  pub inputs : inferred (origins_of (items r)) ≡ []
