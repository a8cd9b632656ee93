use Rattle.std.proofs.Common.{◌≡◌, map, take}
use Rattle.instgen_loop.specs.Refuting.{ground_step}
use Rattle.instgen_loop.proofs.steps.ground_steps.Given as goal

abbrev pub invariant-loop-step : goal.invariant-loop-step
invariant-loop-step l = l.list ≡ map (ground_step l.abstraction.ids l.numbers) (take l.step-index l.step-items)
