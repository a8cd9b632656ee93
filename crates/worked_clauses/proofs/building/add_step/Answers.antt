use Rattle.std.proofs.Common.{sym, subst}
use Rattle.std.specs.Prelude.{All}
use Rattle.tptp_read.specs.Text.{IsFormedStatement}
use Rattle.cert_values.specs.declared.certificate.GroundStep.{GroundStep}
use Rattle.cert_values.specs.Wholes.{IsWholeClause}
use Rattle.worked_clauses.proofs.Wholes.{one_step_more, whole_at}
use Rattle.worked_clauses.proofs.building.add_step.Goals as goal

pub returns-in_ok-push-clause-steps : goal.returns-in_ok-push-clause-steps
returns-in_ok-push-clause-steps c =
    let g = c.clause.new.self in
    let here = whole_at g c.in_ok-clause.field-0 c.in-Cnf.clause c.in_ok-clause.ensures.at (subst IsFormedStatement c.in-Cnf.is c.requires.formed) in
    let s : GroundStep = record { clause = c.in_ok-clause.field-0; hints = c.from-hints.result } in
    subst (All (λ (x : GroundStep). IsWholeClause g x.clause)) (sym c.in_ok-push.ensures.ok) (one_step_more c.args.bank.now g c.clause.ensures.extends c.args.steps.now s c.requires.steps here)
