use Rattle.szs_prove.proofs.Loaded.{printable_problem}
use Rattle.szs_prove.proofs.decision_laws.loaded_problems_are_printable.Goals as goal

pub returns : goal.returns
returns c = printable_problem
