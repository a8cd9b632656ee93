use Rattle.szs_prove.proofs.Decided.{clauses_function_free, clauses_have_no_model, refuted_chain}
use Rattle.szs_prove.proofs.deciding.stress.Goals as goal

pub decided_size-size-requires-clause-verdict : goal.decided_size-size-requires-clause-verdict
decided_size-size-requires-clause-verdict c = c.in_ok-decision.ensures.function_free (clauses_function_free c.args.n c.in_ok-problem.problem.clauses c.in_ok-problem.ensures.clauses)

pub decided_size-size-requires-clause-no_model : goal.decided_size-size-requires-clause-no_model
decided_size-size-requires-clause-no_model c = clauses_have_no_model c.args.n c.in_ok-problem.problem.clauses c.requires.some c.in_ok-problem.ensures.clauses

pub returns : goal.returns
returns c = refuted_chain c.args.n c.in_ok-problem.problem.clauses c.decided_size-size.result c.requires.some c.in_ok-problem.ensures.clauses c.decided_size-size.ensures
