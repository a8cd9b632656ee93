use Rattle.std.specs.Prelude.{Contains, IfSome}
use Rattle.global_subs.proofs.repair.cheapest.Given as goal

abbrev pub invariant-loop-packed : goal.invariant-loop-packed
invariant-loop-packed l = IfSome l.found (Contains l.clause)
