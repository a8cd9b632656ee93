use Rattle.std.proofs.Common.{◌≡◌, ◌≤◌, length}
use Rattle.cdcl_core.specs.Analysis.{AreWaiting, IsMet}
use Rattle.cdcl_core.proofs.analysis.analyze.Given as goal

abbrev pub invariant-loop-next : goal.invariant-loop-next
invariant-loop-next l = record {
  within : l.place ≤ length l.reasons.trail.now.trail.entries;
  size : length l.seen ≡ l.reasons.trail.now.trail.atoms;
  met : IsMet l.reasons.log.now l.reasons.trail.now.trail l.place l.seen l.analysis;
  waiting : AreWaiting l.reasons.trail.now.trail l.place l.seen l.analysis.waiting.places;
}

abbrev pub decreases-loop-next : goal.decreases-loop-next
decreases-loop-next l = l.place
