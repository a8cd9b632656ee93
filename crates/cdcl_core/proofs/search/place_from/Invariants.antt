use Rattle.std.proofs.Common.{◌-◌, length}
use Rattle.cdcl_core.proofs.search.place_from.Given as goal

abbrev pub decreases-loop-place : goal.decreases-loop-place
decreases-loop-place l = length l.assumptions - l.place
