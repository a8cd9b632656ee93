use Rattle.cert_front.proofs.OneJudgement.{one_reply}
use Rattle.cert_front.proofs.laws.replies_are_one.Goals as goal

pub returns : goal.returns
returns c = one_reply
