use Rattle.std.proofs.Common.{◌≡◌, ◌++◌}
use Rattle.tptp_write.specs.Steps.{steps_text, steps_size}
use Rattle.tptp_write.proofs.terms.run_steps.Given as goal

abbrev pub invariant-loop-step : goal.invariant-loop-step
invariant-loop-step l = l.text.items ++ steps_text l.steps.items ≡ l.fn.text.items ++ steps_text l.fn.steps.items

abbrev pub decreases-loop-step : goal.decreases-loop-step
decreases-loop-step l = steps_size l.steps.items
