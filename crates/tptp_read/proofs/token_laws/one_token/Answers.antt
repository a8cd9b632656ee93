use Rattle.tptp_read.proofs.Decided.{decided}
use Rattle.tptp_read.proofs.token_laws.one_token.Goals as goal

pub returns : goal.returns
returns c = decided
