use Rattle.std.proofs.Common.{◌∙◌, ap, arith}
use Rattle.tptp_write.specs.Steps.{steps_size}
use Rattle.tptp_write.proofs.Walks.{steps_size_push, step_taken}
use Rattle.tptp_write.proofs.terms.run_steps.Goals as goal

pub loop-step-preserved : goal.loop-step-preserved
loop-step-preserved c =
    c.in_ok-run_step.ensures.text ∙ step_taken c.loop-step.text.items _ c.loop-step.steps.items c.pop.new.self.items c.in-Some.step c.in-Some.ensures.items c.loop-step.invariant

pub loop-step-smaller : goal.loop-step-smaller
loop-step-smaller c =
    let all = ap steps_size c.in-Some.ensures.items ∙ steps_size_push c.pop.new.self.items c.in-Some.step in
    omega (arith, all, c.in_ok-run_step.ensures.size)
