use Rattle.cdcl_core.proofs.KeptLaws.{not_probed}
use Rattle.cdcl_core.proofs.search.Search.answer.Goals as goal

pub run-requires-clause-search : goal.run-requires-clause-search
run-requires-clause-search c = (not_probed c.args.assumptions.now c.keep_levels.new.self c.probe_where_due.new.self c.in_ok-answer.field-0 c.in_default.not-Some c.in_ok-answer.ensures.probed).0
