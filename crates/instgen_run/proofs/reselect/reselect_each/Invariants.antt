use Rattle.std.proofs.Common.{ℕ, List, drop}
use Rattle.instgen_run.specs.Choosing.{IsUnderWay}
use Rattle.instgen_run.specs.Settling.{AreSelectable, IsOrderly, Reselects}
use Rattle.instgen_run.proofs.reselect.reselect_each.Given as goal

abbrev pub invariant-loop-n : goal.invariant-loop-n
invariant-loop-n g l = record {
  orderly : IsOrderly g.S.Solver.atoms g.I.PartnerIndex.pairs g.I.PartnerIndex.fits l.run l.partners;
  selectable : AreSelectable l.run l.v;
  reselects : Reselects l.fn.run l.run;
  chosen : (left : List ℕ) → IsUnderWay l.fn.run.ground.literals l.v left l.entries l.fn.run.selection → IsUnderWay l.fn.run.ground.literals l.v left (drop l.n-index l.entries) l.run.selection;
}
