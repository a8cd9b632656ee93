use Rattle.std.proofs.Common.{◌≡◌, ◌++◌, drop, map}
use Rattle.std.specs.Prelude.{reverse}
use Rattle.cert_check.specs.declared.walk.Step.TheVariants.{Visit}
use Rattle.cert_check.proofs.walk.push_visits.Given as goal

abbrev pub invariant-loop-i : goal.invariant-loop-i
invariant-loop-i l = reverse l.steps.items ≡ map Visit (drop l.i l.ids) ++ reverse l.initial.steps.items
