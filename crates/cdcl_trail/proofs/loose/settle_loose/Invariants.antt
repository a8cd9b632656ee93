use Rattle.std.proofs.Common.{◌-◌, length}
use Rattle.cdcl_trail.specs.Arena.{AreCopies}
use Rattle.cdcl_trail.specs.Loose.{IsLooseRun}
use Rattle.cdcl_trail.proofs.loose.settle_loose.Given as goal

abbrev pub invariant-loop-passed : goal.invariant-loop-passed
invariant-loop-passed l = record {
  run : IsLooseRun l.clauses l.level l.initial.watched.values l.initial.watched.pairs.items l.initial.attached.loose.items l.initial.passed l.watched.values l.watched.lists.items l.watched.pairs.items l.attached.loose.items l.passed;
  copies : AreCopies l.clauses l.attached.arena l.watched.pairs.items;
}

abbrev pub decreases-loop-passed : goal.decreases-loop-passed
decreases-loop-passed l = length l.attached.loose.items - l.passed
