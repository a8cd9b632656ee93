use Rattle.worked_terms.proofs.Grown.{found_within}
use Rattle.worked_terms.proofs.building.clause_at.Goals as goal

pub returns : goal.returns
returns c = found_within c.args.bank.now c.args.clauses.now c.args.i c.get.result c.requires c.get.ensures
