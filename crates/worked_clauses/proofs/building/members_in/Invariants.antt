use Rattle.std.specs.Prelude.{All, List}
use Rattle.term_bank.specs.Forest.{AreFormed, Extends, Forest}
use Rattle.cert_values.specs.declared.member.Member.{Member}
use Rattle.cert_values.specs.Wholes.{IsWholeClause}
use Rattle.worked_clauses.proofs.building.members_in.Given as goal

pub record Kept (start bank : Forest) (members : List Member) : Type 0 where
  pub formed : AreFormed bank
  pub extends : Extends start bank
  pub whole : All (λ m. IsWholeClause bank m.clause) members

abbrev pub invariant-loop-i : goal.invariant-loop-i
invariant-loop-i l = Kept l.fn.bank l.bank l.members
