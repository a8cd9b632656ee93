use Rattle.std.proofs.Common.{◌≡◌, map, take}
use Rattle.cert_check.specs.Numbered.{numbered_hint}
use Rattle.cert_check.proofs.steps.numbered_hints.Given as goal

abbrev pub invariant-loop-hint : goal.invariant-loop-hint
invariant-loop-hint l = l.list ≡ map numbered_hint (take l.hint-index l.hint-items)
