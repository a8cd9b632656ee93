use Rattle.term_bank.specs.Forest.{AreFormed, IsTermIn}
use Rattle.worked_clauses.proofs.shared.doubled.Given as goal

abbrev pub invariant-loop : goal.invariant-loop
invariant-loop l = record { formed : AreFormed l.bank; term : IsTermIn l.bank l.term }
