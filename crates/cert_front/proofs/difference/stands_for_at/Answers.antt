use Rattle.std.proofs.Common.{sym}
use Rattle.cert_front.proofs.Differing.{clause_formed_at}
use Rattle.cert_front.proofs.difference.stands_for_at.Goals as goal

pub stands_for-requires-clause-clause : goal.stands_for-requires-clause-clause
stands_for-requires-clause-clause c = clause_formed_at c.args.clauses.now c.requires.clauses c.args.i c.in-Some.clause.now (sym c.in-Some.ensures)
