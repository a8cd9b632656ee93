use Rattle.term_bank.specs.Forest.{AreIds, Extends}
use Rattle.worked_terms.proofs.indexes.constants.Given as goal

abbrev pub invariant-loop-n : goal.invariant-loop-n
invariant-loop-n l = record {
  extends : Extends l.fn.bank l.bank;
  ids : AreIds l.bank l.terms.items;
}
