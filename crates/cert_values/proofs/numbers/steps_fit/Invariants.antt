use Rattle.std.proofs.Common.{take}
use Rattle.std.specs.Prelude.{All}
use Rattle.cert_format.specs.Printable.{StepFits}
use Rattle.cert_values.specs.Values.{step_of}
use Rattle.cert_values.proofs.numbers.steps_fit.Given as goal

abbrev pub invariant-loop-step : goal.invariant-loop-step
invariant-loop-step l = All (λ x. StepFits (step_of l.bank x)) (take l.step-index l.step-items)
