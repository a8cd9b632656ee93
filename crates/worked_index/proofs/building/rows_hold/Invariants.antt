use Rattle.term_bank.specs.Forest.{AreIds, Extends}
use Rattle.worked_index.proofs.building.rows_hold.Given as goal

abbrev pub invariant-loop-row : goal.invariant-loop-row
invariant-loop-row g l = record {
  extends : Extends l.fn.bank l.bank;
  terms : AreIds l.bank l.terms;
  ids : AreIds l.bank l.stored;
  fits : g.I.PartnerIndex.fits l.bank l.index;
}
