use Rattle.tptp_read.proofs.Law.{law}
use Rattle.tptp_read.proofs.laws.one_reading.Goals as goal

pub returns : goal.returns
returns c = λ text. law text
