use Rattle.std.proofs.Common.{[], drop}
use Rattle.instgen_run.specs.Choosing.{IsUnderWay}
use Rattle.instgen_run.specs.Settling.{AreSelectable, IsOrderly, Reselects}
use Rattle.instgen_run.proofs.reselect.reselect_all.Given as goal

abbrev pub invariant-loop-a : goal.invariant-loop-a
invariant-loop-a g l = record {
  orderly : IsOrderly g.S.Solver.atoms g.I.PartnerIndex.pairs g.I.PartnerIndex.fits l.run l.partners;
  selectable : AreSelectable l.run l.v;
  reselects : Reselects l.fn.run l.run;
  chosen : IsUnderWay l.fn.run.ground.literals l.v l.atoms [] l.fn.run.selection → IsUnderWay l.fn.run.ground.literals l.v (drop l.a-index l.atoms) [] l.run.selection;
}
