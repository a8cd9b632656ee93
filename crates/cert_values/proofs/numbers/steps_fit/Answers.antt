use Rattle.std.proofs.Common.{arith}
use Rattle.std.proofs.lemmas.List.Elements.{All-map}
use Rattle.cert_format.specs.Printable.{StepFits}
use Rattle.cert_values.specs.Values.{step_of}
use Rattle.cert_values.specs.Wholes.{IsWholeClause}
use Rattle.cert_values.specs.declared.certificate.GroundStep.{GroundStep}
use Rattle.cert_values.proofs.EachItem.{each_item, each_more, each_read}
use Rattle.cert_values.proofs.numbers.steps_fit.Goals as goal

pub step_fits-requires : goal.step_fits-requires
step_fits-requires c = (each_item (λ (x : GroundStep). IsWholeClause c.args.bank.now x.clause) c.args.steps.now c.as_slice-step-items.result.now c.loop-step.step-index c.step-item.result c.requires c.as_slice-step-items.ensures (omega (arith, c.loop-step-test.true)) c.step-item.is)

pub loop-step-preserved : goal.loop-step-preserved
loop-step-preserved c = each_more (λ (x : GroundStep). StepFits (step_of c.args.bank.now x)) c.as_slice-step-items.result.now c.loop-step.step-index c.step-item.result c.loop-step.invariant c.step_fits.ensures (omega (arith, c.loop-step-test.true)) c.step-item.is

pub returns-clause-each : goal.returns-clause-each
returns-clause-each c = All-map StepFits (step_of c.args.bank.now) c.args.steps.now (each_read (λ (x : GroundStep). StepFits (step_of c.args.bank.now x)) c.args.steps.now c.as_slice-step-items.result.now c.loop-step.step-index c.loop-step.invariant c.as_slice-step-items.ensures (omega (arith, c.loop-step-test.false)))
