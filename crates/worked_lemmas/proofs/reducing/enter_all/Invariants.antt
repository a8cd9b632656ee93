use Rattle.std.specs.Prelude.{All}
use Rattle.term_bank.specs.Forest.{IsClauseOf}
use Rattle.worked_lemmas.proofs.reducing.enter_all.Given as goal

abbrev pub invariant-loop-c : goal.invariant-loop-c
invariant-loop-c g l = All (IsClauseOf l.fn.bank) l.known.clauses
