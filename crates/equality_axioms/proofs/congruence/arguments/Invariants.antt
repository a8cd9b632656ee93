use Rattle.std.proofs.Common.{◌≡◌}
use Rattle.equality_axioms.proofs.Pairs.{variables}
use Rattle.equality_axioms.proofs.congruence.arguments.Given as goal

abbrev pub invariant-loop-i : goal.invariant-loop-i
invariant-loop-i l = l.ts ≡ variables l.first l.i
