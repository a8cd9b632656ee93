use Rattle.worked_index.proofs.Ids.{AreCounted}
use Rattle.worked_index.proofs.building.store_all.Given as goal

abbrev pub invariant-loop-i : goal.invariant-loop-i
invariant-loop-i g l = record {
  fits : g.I.PartnerIndex.fits l.bank l.index;
  counted : AreCounted (g.I.PartnerIndex.pairs l.index) l.i;
}
