use Rattle.core_min.proofs.Places.{begins}
use Rattle.core_min.proofs.laws.deletion_begins.Goals as goal

pub returns : goal.returns
returns c = begins
