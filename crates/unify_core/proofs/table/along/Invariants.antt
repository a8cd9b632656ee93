use Rattle.std.proofs.Common.{◌≡◌, drop}
use Rattle.unify_core.specs.Table.{bound_of}
use Rattle.unify_core.proofs.table.along.Given as goal

abbrev pub invariant-loop-i : goal.invariant-loop-i
invariant-loop-i l = bound_of l.x (drop l.i l.bound) ≡ bound_of l.x l.bound
