use Rattle.std.proofs.Common.{length}
use Rattle.term_bank.specs.Forest.{Grows}
use Rattle.cert_items.specs.Reading.{StateBy}
use Rattle.cert_items.proofs.terms.terms.Given as goal

abbrev pub invariant-loop-due : goal.invariant-loop-due
invariant-loop-due l = record {
  state : StateBy l.due l.bank l.text l.opens.items l.ids.items l.rest;
  grows : Grows l.fn.bank l.bank;
}

abbrev pub decreases-loop-due : goal.decreases-loop-due
decreases-loop-due l = length l.rest
