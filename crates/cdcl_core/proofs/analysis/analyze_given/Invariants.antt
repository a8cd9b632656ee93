use Rattle.std.proofs.Common.{◌≡◌, ◌≤◌, length}
use Rattle.cdcl_core.specs.Analysis.{AreWaiting, IsMetDecided}
use Rattle.cdcl_core.proofs.analysis.analyze_given.Given as goal

abbrev pub invariant-loop-next : goal.invariant-loop-next
invariant-loop-next l = record {
  within : l.place ≤ l.initial.place;
  size : length l.seen ≡ l.reasons.trail.now.trail.atoms;
  met : IsMetDecided l.reasons.log.now l.reasons.trail.now.trail l.initial.place l.place l.fn.lit l.seen l.analysis;
  waiting : AreWaiting l.reasons.trail.now.trail l.place l.seen l.analysis.waiting.places;
}

abbrev pub decreases-loop-next : goal.decreases-loop-next
decreases-loop-next l = l.place
