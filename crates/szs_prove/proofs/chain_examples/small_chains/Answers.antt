use Rattle.std.proofs.Common.{refl}
use Rattle.std.specs.Fmt.{digits}
use Rattle.szs_prove.proofs.chain_examples.small_chains.Goals as goal

pub returns-clause-two : goal.returns-clause-two
unfolding digits
returns-clause-two c = refl

pub returns-clause-three : goal.returns-clause-three
unfolding digits
returns-clause-three c = refl
