use Rattle.std.proofs.Common.{◌≡◌, ◌≤◌, ◌++◌, ℕ, List, length}
use Rattle.inst_logic.specs.declared.signed.Signed.{Signed}
use Rattle.term_bank.specs.Forest.{Extends}
use Rattle.instgen_select.specs.Queues.{numbers}
use Rattle.instgen_run.specs.Loops.{IsConsistent, AreReady, ArePartners, items}
use Rattle.instgen_run.specs.Running.{KeepsRunning}
use Rattle.instgen_run.specs.Tended.{AreTended}
use Rattle.instgen_run.proofs.queue.work_ready.Given as goal

abbrev pub invariant-loop-run : goal.invariant-loop-run
invariant-loop-run g l =
    let index = g.I.PartnerIndex in
    record {
      safe : IsConsistent g.S.Solver.atoms index.pairs index.fits l.run;
      ready : AreReady l.run;
      partners : ArePartners index.pairs index.fits l.run l.partners;
      tended : AreTended index.pairs l.run l.partners;
      running : KeepsRunning g.S.Solver.atoms g.S.Solver.added l.fn.run l.run;
      bank : Extends l.fn.run.entries.bank l.run.entries.bank;
      selection : l.run.selection ≡ l.fn.run.selection;
      literals : (more : List (List (Signed ℕ))) × (l.run.ground.literals ≡ l.fn.run.ground.literals ++ more);
      grown : length (items l.fn.run) ≤ length (items l.run);
      same : length (items l.run) ≡ length (items l.fn.run) → numbers l.run.queue.items ≡ numbers l.run.queue.ready;
    }

abbrev pub decreases-loop-run : goal.decreases-loop-run
decreases-loop-run g l = length l.run.queue.ready
