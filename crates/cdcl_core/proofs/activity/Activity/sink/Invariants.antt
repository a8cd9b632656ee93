use Rattle.std.proofs.Common.{◌≡◌, ◌-◌, length}
use Rattle.cdcl_core.proofs.activity.Activity.sink.Given as goal

abbrev pub invariant-loop-hole : goal.invariant-loop-hole
invariant-loop-hole l = length l.self.heap.items ≡ length l.fn.self.heap.items

abbrev pub decreases-loop-hole : goal.decreases-loop-hole
decreases-loop-hole l = length l.self.heap.items - l.hole
