use Rattle.szs_prove.proofs.CheckedDecisions.{always_decided}
use Rattle.szs_prove.proofs.decision.decide.Goals as goal

pub returns-then-function_free-clause-function_free : goal.returns-then-function_free-clause-function_free
returns-then-function_free-clause-function_free c = always_decided c.last_decision.result c.args.p.now c.args.budget c.last_decision.ensures

pub returns-else-function_free-clause-function_free : goal.returns-else-function_free-clause-function_free
returns-else-function_free-clause-function_free c = always_decided c.decision_by_turns.result c.args.p.now c.args.budget c.decision_by_turns.ensures
