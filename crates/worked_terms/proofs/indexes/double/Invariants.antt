use Rattle.term_bank.specs.Forest.{AreIds, Extends}
use Rattle.worked_terms.proofs.indexes.double.Given as goal

abbrev pub invariant-loop : goal.invariant-loop
invariant-loop l = record {
  extends : Extends l.fn.bank l.bank;
  ids : AreIds l.bank l.terms.items;
}
