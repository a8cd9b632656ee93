use Rattle.std.specs.Prelude.{All, List, ℕ}
use Rattle.inst_logic.specs.declared.signed.Signed.{Signed}
use Rattle.term_bank.specs.Forest.{AreFormed, Extends, Forest}
use Rattle.cert_values.specs.Wholes.{IsWholeClause}
use Rattle.worked_clauses.proofs.building.clauses_in.Given as goal

pub record Kept (start bank : Forest) (clauses : List (List (Signed ℕ))) : Type 0 where
  pub formed : AreFormed bank
  pub extends : Extends start bank
  pub ids : All (IsWholeClause bank) clauses

abbrev pub invariant-loop-statement : goal.invariant-loop-statement
invariant-loop-statement l = Kept l.fn.bank l.bank l.ids
