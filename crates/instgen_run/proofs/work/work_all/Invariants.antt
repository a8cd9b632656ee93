use Rattle.std.proofs.Common.{◌<◌, ◌≤◌, length, Contains}
use Rattle.std.specs.Prelude.{IfSome}
use Rattle.term_index.specs.Pairs.{Posting}
use Rattle.instgen_run.specs.Loops.{IsConsistent, Goes, IsPairWorked}
use Rattle.instgen_run.proofs.Works.{IsDone}
use Rattle.instgen_run.specs.Running.{AreOpposite, KeepsRunning}
use Rattle.instgen_run.proofs.work.work_all.Given as goal

abbrev pub invariant-loop-cursor : goal.invariant-loop-cursor
invariant-loop-cursor g l =
    let index = g.I.PartnerIndex in
    record {
      safe : IsConsistent g.S.Solver.atoms index.pairs index.fits l.run;
      goes : Goes l.fn.run l.run;
      walks : index.walks l.partners l.cursor;
      among : (p : Posting) → index.to_come l.partners l.cursor p → index.to_come l.partners l.initial.cursor p;
      running : ((p : Posting) → Contains (index.pairs l.partners) p → AreOpposite l.fn.run l.pick.entry p.1) → KeepsRunning g.S.Solver.atoms g.S.Solver.added l.fn.run l.run;
      last : IfSome l.last (λ k. (0 < k) × (k ≤ length l.run.selection.places) × IsPairWorked l.run l.pick.entry k);
      worked : IsDone l.run l.pick.entry (index.to_come l.partners l.initial.cursor) (index.to_come l.partners l.cursor);
    }

abbrev pub decreases-loop-cursor : goal.decreases-loop-cursor
decreases-loop-cursor g l = g.I.PartnerIndex.most l.partners l.cursor
