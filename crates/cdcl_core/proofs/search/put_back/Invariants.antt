use Rattle.std.proofs.Common.{◌≤◌, length}
use Rattle.cdcl_core.proofs.search.put_back.Given as goal

abbrev pub invariant-loop-place : goal.invariant-loop-place
invariant-loop-place l = l.place ≤ length l.trail.trail.entries

abbrev pub decreases-loop-place : goal.decreases-loop-place
decreases-loop-place l = l.place
