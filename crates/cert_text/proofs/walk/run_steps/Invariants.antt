use Rattle.std.proofs.Common.{◌≡◌, ◌++◌}
use Rattle.cert_text.specs.Steps.{steps_text, steps_size, AreSteps}
use Rattle.cert_text.proofs.walk.run_steps.Given as goal

abbrev pub invariant-loop-step : goal.invariant-loop-step
invariant-loop-step l = record {
  text : l.text.items ++ steps_text l.bank l.steps.items ≡ l.fn.text.items ++ steps_text l.bank l.fn.steps.items;
  steps : AreSteps l.bank l.steps.items;
}

abbrev pub decreases-loop-step : goal.decreases-loop-step
decreases-loop-step l = steps_size l.bank l.steps.items
