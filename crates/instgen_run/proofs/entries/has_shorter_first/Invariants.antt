use Rattle.std.proofs.Common.{All, take}
use Rattle.instgen_run.specs.Clauses.{IsPastSought, AreUnsought}
use Rattle.instgen_run.proofs.entries.has_shorter_first.Given as goal

abbrev pub invariant-loop-l : goal.invariant-loop-l
invariant-loop-l g l =
    record {
      past : All (IsPastSought g.I.PartnerIndex.pairs l.entries l.sought) (take l.l-index l.sought.clause.now);
      tested : AreUnsought l.entries l.sought l.tested;
    }
