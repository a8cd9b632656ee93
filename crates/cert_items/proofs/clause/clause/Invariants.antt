use Rattle.std.proofs.Common.{length}
use Rattle.term_bank.specs.Forest.{Grows}
use Rattle.cert_items.specs.ClauseTexts.{HasRead}
use Rattle.cert_items.proofs.clause.clause.Given as goal

abbrev pub invariant-loop-ended : goal.invariant-loop-ended
invariant-loop-ended l = record {
  read : HasRead l.bank l.literals l.ended l.bytes l.rest;
  grows : Grows l.fn.bank l.bank;
}

abbrev pub decreases-loop-ended : goal.decreases-loop-ended
decreases-loop-ended l = length l.rest
