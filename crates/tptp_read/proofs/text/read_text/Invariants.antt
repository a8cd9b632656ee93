use Rattle.std.proofs.Common.{length}
use Rattle.tptp_read.proofs.Passes.{Passed}
use Rattle.tptp_read.proofs.text.read_text.Given as goal

abbrev pub invariant-loop-list : goal.invariant-loop-list
invariant-loop-list l = Passed l.text l.list l.rest

abbrev pub decreases-loop-list : goal.decreases-loop-list
decreases-loop-list l = length l.rest
