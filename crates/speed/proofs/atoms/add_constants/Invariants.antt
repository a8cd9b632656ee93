use Rattle.term_bank.specs.Forest.{AreIds, Extends}
use Rattle.speed.proofs.atoms.add_constants.Given as goal

abbrev pub invariant-loop-n : goal.invariant-loop-n
invariant-loop-n l = record {
  extends : Extends l.fn.bank l.bank;
  ids : AreIds l.bank l.terms.all.items;
}
