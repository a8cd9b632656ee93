use Rattle.std.proofs.Common.{◌≡◌}
use Rattle.inst_calculus.specs.Axioms.{unequal_pairs}
use Rattle.equality_axioms.proofs.congruence.premises.Given as goal

abbrev pub invariant-loop-i : goal.invariant-loop-i
invariant-loop-i l = l.c ≡ unequal_pairs 0 l.i
