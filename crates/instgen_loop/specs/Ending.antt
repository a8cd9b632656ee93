-- Runs at rest, and the certificates that they give.
use Rattle.std.specs.Prelude.{◌≡◌, ℕ, List, [], length}
use Rattle.inst_logic.specs.declared.signed.Signed.{Signed}
use Rattle.term_bank.specs.Forest.{Forest}
use Rattle.term_index.specs.Pairs.{Posting}
use Rattle.cert_values.specs.declared.certificate.Saturation.{Saturation}
use Rattle.instgen_loop.specs.declared.start.Given.{Given}
use Rattle.instgen_run.specs.declared.state.Run.{Run}
use Rattle.instgen_loop.specs.declared.finish.SettledRun.{SettledRun}
use Rattle.instgen_run.specs.declared.queue.Partners.{Partners}
use Rattle.instgen_loop.specs.declared.task.Task.{Task}
use Rattle.instgen_run.specs.Loops.{items, IsConsistent}
use Rattle.instgen_loop.specs.Refuting.{remains_of, base_from}
use Rattle.instgen_run.specs.Running.{IsSolvedFor}
use Rattle.instgen_loop.specs.Starting.{IsOfProblem}
use Rattle.instgen_loop.specs.Tasks.{all_clauses}
use Rattle.instgen_run.specs.Tended.{AreTended}

-- nothing waits, each entry has a place, and what is indexed is worked
pub record IsAtRest {S I C : Type 0} (atoms : S → ℕ) (pairs : I → List Posting) (fits : Forest → I → Type 0) (r : Run S I C) (p : Partners I C) : Type 0 where
  pub safe : IsConsistent atoms pairs fits r
  pub tended : AreTended pairs r p
  pub rests : r.queue.items ≡ []
  pub whole : length r.selection.places ≡ length (items r)

-- a run for the task that is at rest after a solve
pub record IsFinished {S I C : Type 0} (atoms : S → ℕ) (added : S → List (List (Signed ℕ))) (pairs : I → List Posting) (fits : Forest → I → Type 0) (t : Task) (r : Run S I C) (p : Partners I C) (g : Given) : Type 0 where
  pub rest : IsAtRest atoms pairs fits r p
  pub solved : IsSolvedFor atoms added r (all_clauses t) t.budget
  pub problem : IsOfProblem r g t.problem.now.clauses

-- what a saturation is made of
abbrev pub settled_from : {S I C : Type 0} → Run S I C → Given → SettledRun
settled_from r g = record { remains = remains_of r g; selection = r.selection }

-- the run's entries with their places
abbrev pub saturation_from : List (List ℕ) → SettledRun → Saturation
saturation_from names r = record { base = base_from names r.remains; places = r.selection.places }
