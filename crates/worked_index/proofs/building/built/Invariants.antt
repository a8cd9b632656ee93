use Rattle.term_bank.specs.Forest.{AreIds, Extends}
use Rattle.worked_index.proofs.building.built.Given as goal

abbrev pub invariant-loop-part : goal.invariant-loop-part
invariant-loop-part l = record {
  extends : Extends l.fn.bank l.bank;
  ids : AreIds l.bank l.terms.items;
}
