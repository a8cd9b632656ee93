use Rattle.instgen_loop.proofs.Started.{always_decided}
use Rattle.instgen_loop.proofs.outcome.run_with.Goals as goal

pub returns-clause-function_free : goal.returns-clause-function_free
returns-clause-function_free g c = always_decided c.outcome_where_ended.result c.args.p.now.clauses c.args.p.now.names c.args.budget c.outcome_where_ended.ensures.outcome
