use Rattle.std.proofs.Common.{◌-◌, length}
use Rattle.cdcl_trail.specs.Running.{IsTrailRun}
use Rattle.cdcl_trail.proofs.visit_trail.visit_trail.Given as goal

abbrev pub invariant-loop-head : goal.invariant-loop-head
invariant-loop-head l = IsTrailRun l.clauses l.level l.head l.initial.watched.values l.initial.watched.pairs.items l.watched.values l.watched.lists.items l.watched.pairs.items

abbrev pub decreases-loop-head : goal.decreases-loop-head
decreases-loop-head l = length l.watched.values.entries.items - l.head
