use Rattle.std.proofs.Common.{length}
use Rattle.cdcl_core.proofs.activity.Activity.pick.Given as goal

abbrev pub decreases-loop-atom : goal.decreases-loop-atom
decreases-loop-atom l = length l.self.heap.items
