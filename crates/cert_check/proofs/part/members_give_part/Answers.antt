use Rattle.std.proofs.Common.{arith}
use Rattle.std.proofs.lemmas.Result.{IfOk-weaker}
use Rattle.cert_check.proofs.part.members_give_part.Goals as goal

pub returns-clause-gives : goal.returns-clause-gives
returns-clause-gives c = IfOk-weaker c.is_part.result _ _ (λ b h. ((λ t. (omega arith, omega arith, h.0 t)), (λ p. h.1 p.2))) c.is_part.ensures.part
