use Rattle.std.proofs.Common.{◌≡◌, ◌++◌, drop}
use Rattle.term_bank.specs.Forest.{clause_at}
use Rattle.tptp_write.specs.Pieces.{following_text}
use Rattle.cert_text.proofs.clauses.push_following.Given as goal

abbrev pub invariant-loop-l : goal.invariant-loop-l
invariant-loop-l l = l.pen ++ following_text (clause_at l.bank (drop l.l-index l.literals)) ≡ l.initial.pen ++ following_text (clause_at l.bank l.literals)
