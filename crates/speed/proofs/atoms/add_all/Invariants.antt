use Rattle.term_bank.specs.Forest.{AreIds, Extends}
use Rattle.speed.proofs.atoms.add_all.Given as goal

abbrev pub invariant-loop-i : goal.invariant-loop-i
invariant-loop-i l = record {
  extends : Extends l.fn.bank l.bank;
  ids : AreIds l.bank l.terms.all.items;
}
