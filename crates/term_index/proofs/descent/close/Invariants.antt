use Rattle.std.proofs.Common.{length}
use Rattle.term_index.specs.Left.{Closes}
use Rattle.term_index.proofs.descent.close.Given as goal

abbrev pub invariant-loop-last : goal.invariant-loop-last
invariant-loop-last l = record { closes : Closes l.fn.opened.items l.opened.items l.fn.closed.items l.closed.items l.fn.node l.fn.height }

abbrev pub decreases-loop-last : goal.decreases-loop-last
decreases-loop-last l = length l.opened.items
