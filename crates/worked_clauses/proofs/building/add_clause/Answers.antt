use Rattle.std.proofs.Common.{sym, subst}
use Rattle.std.specs.Prelude.{All}
use Rattle.tptp_read.specs.Text.{IsFormedStatement}
use Rattle.cert_values.specs.Wholes.{IsWholeClause}
use Rattle.worked_clauses.proofs.Wholes.{one_more, whole_at}
use Rattle.worked_clauses.proofs.building.add_clause.Goals as goal

pub returns-in_ok-push-clause-ids : goal.returns-in_ok-push-clause-ids
returns-in_ok-push-clause-ids c =
    let g = c.clause.new.self in
    let here = whole_at g c.in_ok-clause.field-0 c.in-Cnf.clause c.in_ok-clause.ensures.at (subst IsFormedStatement c.in-Cnf.is c.requires.formed) in
    subst (All (IsWholeClause g)) (sym c.in_ok-push.ensures.ok) (one_more c.args.bank.now g c.clause.ensures.extends c.args.ids.now c.in_ok-clause.field-0 c.requires.ids here)
