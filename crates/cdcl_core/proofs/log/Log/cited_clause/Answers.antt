use Rattle.std.proofs.Common.{sym}
use Rattle.cdcl_core.proofs.LogLaws.{cited_below}
use Rattle.cdcl_core.proofs.log.Log.cited_clause.Goals as goal

pub returns-in-Some-clause-below : goal.returns-in-Some-clause-below
returns-in-Some-clause-below c = λ n added steps. cited_below n c.args.self.now.added c.args.self.now.steps c.args.hint c.in-Some.clause.now added steps (sym c.in-Some.ensures)
