use Rattle.std.specs.Prelude.{All, List}
use Rattle.term_bank.specs.Forest.{AreFormed, Extends, Forest}
use Rattle.cert_values.specs.declared.certificate.GroundStep.{GroundStep}
use Rattle.cert_values.specs.Wholes.{IsWholeClause}
use Rattle.worked_clauses.proofs.building.steps_in.Given as goal

pub record Kept (start bank : Forest) (steps : List GroundStep) : Type 0 where
  pub formed : AreFormed bank
  pub extends : Extends start bank
  pub whole : All (λ s. IsWholeClause bank s.clause) steps

abbrev pub invariant-loop-statement : goal.invariant-loop-statement
invariant-loop-statement l = Kept l.fn.bank l.bank l.steps
