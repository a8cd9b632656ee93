use Rattle.tptp_read.proofs.Decided.{done_is_end, same_ends}
use Rattle.tptp_read.proofs.token_laws.one_end.Goals as goal

pub returns : goal.returns
returns c = record { done = done_is_end; same = same_ends }
