-- What each decision says of the problem.
use Rattle.std.specs.Prelude.{◌≡◌, ℕ, List, ⊤}
use Rattle.inst_logic.specs.declared.clause.Problem.{Problem}
use Rattle.inst_logic.specs.declared.symbol.Sym.{Sym}
use Rattle.inst_calculus.specs.Models.{SelectedClause}
use Rattle.inst_machine.specs.Machine.{Event, State}
use Rattle.inst_machine.specs.Replay.{ReplaysFrom}
use Rattle.inst_machine.specs.Budget.{RunsOut}
use Rattle.cert_format.specs.Certificate.{Certificate, base_of}
use Rattle.cert_format.specs.Certifies.{Certifies}
use Rattle.cert_format.specs.Formats.{written_format}
use Rattle.cert_front.specs.Kinds.{covered_value, refutation_value}
use Rattle.szs_prove.specs.declared.decision.Decision.{Decision}
use Rattle.szs_prove.specs.declared.decision.Decision.TheVariants.{Unsatisfiable, Satisfiable, OutOfBudget}

-- the members with their origins are, in order, the entries of a state that a replay from the problem's clauses and axioms reaches
pub record IsReplayed (p : Problem) (c : Certificate) : Type 0 where
  pub constant : Sym
  pub journal : List Event
  pub state : State
  pub replays : ReplaysFrom p.clauses constant journal state
  pub members : (base_of c).members ≡ state.entries

-- a run of the machine from the problem's clauses and axioms ends for want of this budget, with these numbers
pub record IsStopped (p : Problem) (budget left wanted : ℕ) : Type 0 where
  pub constant : Sym
  pub journal : List Event
  pub state : State
  pub members : List SelectedClause
  pub ends : RunsOut p.clauses budget left wanted constant journal state members

-- the certificate is one of the problem, and comes from a run
pub record IsShownBy (p : Problem) (c : Certificate) : Type 0 where
  pub certifies : Certifies p written_format c
  pub replayed : IsReplayed p c

abbrev pub IsDecision : Problem → ℕ → Decision → Type 0
IsDecision p budget (Unsatisfiable c) = IsShownBy p (refutation_value c)
IsDecision p budget (Satisfiable c) = IsShownBy p (covered_value c)
IsDecision p budget (OutOfBudget left wanted) = IsStopped p budget left wanted

-- the problem has no model, or has one
abbrev pub IsVerdict : Decision → Type 0
IsVerdict (Unsatisfiable c) = ⊤
IsVerdict (Satisfiable c) = ⊤
IsVerdict (OutOfBudget left wanted) = ⊥
