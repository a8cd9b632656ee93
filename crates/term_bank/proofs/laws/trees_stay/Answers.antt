use Rattle.term_bank.proofs.Growth.{at_extends, ids_extend, map_extends}
use Rattle.term_bank.proofs.laws.trees_stay.Goals as goal

pub returns-clause-at : goal.returns-clause-at
returns-clause-at c = at_extends

pub returns-clause-ids : goal.returns-clause-ids
returns-clause-ids c = ids_extend

pub returns-clause-trees : goal.returns-clause-trees
returns-clause-trees c = map_extends
