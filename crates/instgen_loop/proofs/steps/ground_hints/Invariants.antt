use Rattle.std.proofs.Common.{◌≡◌, map, take}
use Rattle.instgen_loop.specs.Refuting.{ground_hint}
use Rattle.instgen_loop.proofs.steps.ground_hints.Given as goal

abbrev pub invariant-loop-hint : goal.invariant-loop-hint
invariant-loop-hint l = l.list ≡ map (ground_hint l.numbers) (take l.hint-index l.hint-items)
