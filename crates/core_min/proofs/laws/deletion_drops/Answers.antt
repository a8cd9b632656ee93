use Rattle.core_min.proofs.Places.{drops}
use Rattle.core_min.proofs.laws.deletion_drops.Goals as goal

pub returns : goal.returns
returns c = drops
