use Rattle.term_bank.proofs.Growth.{extends_itself, extends_trans}
use Rattle.term_bank.proofs.laws.extensions.Goals as goal

pub returns-clause-itself : goal.returns-clause-itself
returns-clause-itself c = extends_itself

pub returns-clause-transitive : goal.returns-clause-transitive
returns-clause-transitive c = extends_trans
