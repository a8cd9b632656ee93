use Rattle.std.proofs.Common.{take}
use Rattle.std.specs.Prelude.{All}
use Rattle.cert_format.specs.Printable.{ClauseFits}
use Rattle.term_bank.specs.Forest.{clause_at}
use Rattle.cert_values.proofs.numbers.clauses_fit.Given as goal

abbrev pub invariant-loop-clause : goal.invariant-loop-clause
invariant-loop-clause l = All (λ x. ClauseFits (clause_at l.bank x)) (take l.clause-index l.clause-items)
