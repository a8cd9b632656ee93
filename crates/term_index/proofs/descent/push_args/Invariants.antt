use Rattle.std.proofs.Common.{◌≡◌, ◌++◌, drop, reverse}
use Rattle.term_index.proofs.descent.push_args.Given as goal

abbrev pub invariant-loop-i : goal.invariant-loop-i
invariant-loop-i l = l.left.items ≡ l.initial.left.items ++ reverse (drop l.i l.args)
