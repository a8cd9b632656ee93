use Rattle.tptp_read.proofs.AtomLaw.{one_atom}
use Rattle.tptp_read.proofs.laws.one_atom.Goals as goal

pub returns : goal.returns
returns c = λ text. one_atom text
