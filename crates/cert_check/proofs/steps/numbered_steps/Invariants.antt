use Rattle.std.proofs.Common.{◌≡◌, map, take}
use Rattle.cert_check.specs.Numbered.{numbered_step}
use Rattle.cert_check.proofs.steps.numbered_steps.Given as goal

abbrev pub invariant-loop-step : goal.invariant-loop-step
invariant-loop-step l = l.derivation ≡ map numbered_step (take l.step-index l.step-items)
