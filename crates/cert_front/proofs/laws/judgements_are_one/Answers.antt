use Rattle.cert_front.proofs.OneJudgement.{one_judgement}
use Rattle.cert_front.proofs.laws.judgements_are_one.Goals as goal

pub returns : goal.returns
returns c = one_judgement
