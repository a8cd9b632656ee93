use Rattle.std.proofs.Common.{refl, arith}
use Rattle.cert_values.specs.Wholes.{IsWholeClause}
use Rattle.cert_values.specs.declared.certificate.GroundStep.{GroundStep}
use Rattle.cert_values.proofs.EachItem.{each_item}
use Rattle.cert_text.proofs.listing.push_steps.Goals as goal

pub push_step-requires : goal.push_step-requires
push_step-requires c = (each_item (λ (x : GroundStep). IsWholeClause c.args.bank.now x.clause) c.args.steps.now c.args.steps.now c.loop-i.i c.index-steps-i.result c.requires refl (omega arith) c.index-steps-i.is).ids
