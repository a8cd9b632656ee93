use Rattle.tptp_load.proofs.OneLoading.{one_problem, one_refusal, never_both}
use Rattle.tptp_load.proofs.laws.one_loading.Goals as goal

pub returns-clause-problems : goal.returns-clause-problems
returns-clause-problems c = one_problem c.one_reading.ensures

pub returns-clause-refusals : goal.returns-clause-refusals
returns-clause-refusals c = one_refusal c.one_reading.ensures

pub returns-clause-apart : goal.returns-clause-apart
returns-clause-apart c = never_both c.one_reading.ensures
