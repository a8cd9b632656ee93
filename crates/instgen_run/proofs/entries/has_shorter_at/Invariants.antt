use Rattle.instgen_run.specs.Clauses.{AreUnsought}
use Rattle.instgen_run.proofs.Covers.{IsPassed}
use Rattle.instgen_run.proofs.entries.has_shorter_at.Given as goal

abbrev pub invariant-loop-cursor : goal.invariant-loop-cursor
invariant-loop-cursor g l =
    let index = g.I.PartnerIndex in
    record {
      walks : index.walks l.entries.first l.cursor;
      passed : IsPassed l.entries.bank l.entries.clauses.entries l.sought.clause.now l.sought.len (index.to_come l.initial.entries.first l.initial.cursor) (index.to_come l.entries.first l.cursor);
      tested : AreUnsought l.entries l.sought l.tested;
    }

abbrev pub decreases-loop-cursor : goal.decreases-loop-cursor
decreases-loop-cursor g l = g.I.PartnerIndex.most l.entries.first l.cursor
