use Rattle.std.proofs.Common.{arith}
use Rattle.cert_inference.proofs.Conclusions.{and_conclusion}
use Rattle.cert_inference.proofs.inference.members_give.Goals as goal

pub returns-clause-gives : goal.returns-clause-gives
returns-clause-gives c = and_conclusion _ _ _ _ _ _ _ (omega arith) (omega arith) c.is_conclusion.result c.is_conclusion.ensures.gives
