use Rattle.std.proofs.Common.{◌-◌, length, take}
use Rattle.std.specs.Prelude.{All, Contains}
use Rattle.cdcl_trail.specs.Trail.{literals_of}
use Rattle.cdcl_core.proofs.search.first_not_true.Given as goal

abbrev pub invariant-loop-place : goal.invariant-loop-place
invariant-loop-place l = All (Contains (literals_of l.trail.trail.entries)) (take l.place l.assumptions)

abbrev pub decreases-loop-place : goal.decreases-loop-place
decreases-loop-place l = length l.assumptions - l.place
