use Rattle.std.proofs.Common.{refl}
use Rattle.std.specs.Fmt.{digits}
use Rattle.szs_prove.proofs.chain_examples.lines.Goals as goal

pub returns : goal.returns
unfolding digits
returns c = refl
