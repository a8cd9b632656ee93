use Rattle.cdcl_core.proofs.BackLaws.{AreShared}
use Rattle.cdcl_core.proofs.search.shared_level.Given as goal

abbrev pub invariant-loop-place : goal.invariant-loop-place
invariant-loop-place l = AreShared l.trail.trail.entries l.assumptions l.place
