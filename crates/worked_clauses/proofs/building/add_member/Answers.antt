use Rattle.std.proofs.Common.{sym, subst}
use Rattle.std.specs.Prelude.{All}
use Rattle.tptp_read.specs.Text.{IsFormedStatement}
use Rattle.cert_values.specs.declared.member.Member.{Member}
use Rattle.cert_values.specs.Wholes.{IsWholeClause}
use Rattle.worked_clauses.proofs.Wholes.{one_member_more, whole_at}
use Rattle.worked_clauses.proofs.building.add_member.Goals as goal

pub returns-in_ok-push-clause-members : goal.returns-in_ok-push-clause-members
returns-in_ok-push-clause-members c =
    let g = c.clause.new.self in
    let here = whole_at g c.in_ok-clause.field-0 c.in-Cnf.clause c.in_ok-clause.ensures.at (subst IsFormedStatement c.in-Cnf.is c.requires.formed) in
    let m : Member = record { clause = c.in_ok-clause.field-0; origin = c.args.origin } in
    subst (All (λ (x : Member). IsWholeClause g x.clause)) (sym c.in_ok-push.ensures.ok) (one_member_more c.args.bank.now g c.clause.ensures.extends c.args.members.now m c.requires.members here)
