use Rattle.tptp_read.proofs.ReadableLaws.{readable_good}
use Rattle.tptp_read.proofs.laws.readable_is_good.Goals as goal

pub returns-clause-formed : goal.returns-clause-formed
returns-clause-formed c = λ text ss r. (readable_good ss text r).0

pub returns-clause-names : goal.returns-clause-names
returns-clause-names c = λ text ss r. (readable_good ss text r).1
