use Rattle.term_bank.specs.Forest.{AreIds}
use Rattle.worked_index.proofs.building.terms_of.Given as goal

abbrev pub invariant-loop-place : goal.invariant-loop-place
invariant-loop-place l = AreIds l.bank l.ids.items
