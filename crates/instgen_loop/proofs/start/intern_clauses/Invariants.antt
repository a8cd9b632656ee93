use Rattle.std.proofs.Common.{take}
use Rattle.term_bank.specs.Forest.{AreFormed, Extends}
use Rattle.instgen_loop.specs.Starting.{AreGiven}
use Rattle.instgen_loop.proofs.start.intern_clauses.Given as goal

abbrev pub invariant-loop-c : goal.invariant-loop-c
invariant-loop-c l = record {
  given : AreGiven l.bank l.ids (take l.c-index l.c-items);
  extends : Extends l.fn.bank l.bank;
  formed : AreFormed l.bank;
}
