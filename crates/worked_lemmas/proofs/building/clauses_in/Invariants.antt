use Rattle.std.specs.Prelude.{All}
use Rattle.term_bank.specs.Forest.{IsClauseOf}
use Rattle.worked_lemmas.proofs.building.clauses_in.Given as goal

abbrev pub invariant-loop-statement : goal.invariant-loop-statement
invariant-loop-statement l = All (IsClauseOf l.bank) l.ids
