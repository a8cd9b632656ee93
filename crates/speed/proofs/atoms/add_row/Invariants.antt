use Rattle.term_bank.specs.Forest.{AreIds, Extends}
use Rattle.speed.proofs.atoms.add_row.Given as goal

abbrev pub invariant-loop-j : goal.invariant-loop-j
invariant-loop-j l = record {
  extends : Extends l.fn.bank l.bank;
  ids : AreIds l.bank l.terms.all.items;
}
