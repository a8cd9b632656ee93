use Rattle.std.proofs.Common.{◌≡◌, take}
use Rattle.cdcl_core.proofs.steps.unpack.Given as goal

abbrev pub invariant-loop-packed : goal.invariant-loop-packed
invariant-loop-packed l = l.literals.items ≡ take l.packed-index l.clause
