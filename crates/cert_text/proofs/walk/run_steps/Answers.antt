use Rattle.std.proofs.Common.{◌∙◌, ap, subst, arith}
use Rattle.cert_text.specs.Steps.{steps_size, AreSteps}
use Rattle.cert_text.proofs.Writing.{last_step, step_taken, steps_size_push}
use Rattle.cert_text.proofs.walk.run_steps.Goals as goal

pub run_step-requires-clause-step : goal.run_step-requires-clause-step
run_step-requires-clause-step c = (last_step c.args.bank.now c.pop.new.self.items c.in-Some.step (subst (AreSteps c.args.bank.now) c.in-Some.ensures.items c.loop-step.invariant.steps)).1

pub run_step-requires-clause-steps : goal.run_step-requires-clause-steps
run_step-requires-clause-steps c = (last_step c.args.bank.now c.pop.new.self.items c.in-Some.step (subst (AreSteps c.args.bank.now) c.in-Some.ensures.items c.loop-step.invariant.steps)).0

pub loop-step-smaller : goal.loop-step-smaller
loop-step-smaller c =
    let all = ap (steps_size c.args.bank.now) c.in-Some.ensures.items ∙ steps_size_push c.args.bank.now c.pop.new.self.items c.in-Some.step in
    omega (arith, all, c.in_ok-run_step.ensures.size)

pub loop-step-preserved : goal.loop-step-preserved
loop-step-preserved c = record {
  text = c.in_ok-run_step.ensures.text ∙ step_taken c.args.bank.now c.loop-step.text.items _ c.loop-step.steps.items c.pop.new.self.items c.in-Some.step c.in-Some.ensures.items c.loop-step.invariant.text;
  steps = c.in_ok-run_step.ensures.steps;
}
