use Rattle.std.proofs.Common.{◌-◌, length}
use Rattle.cdcl_trail.specs.Watch.{slot_of, list_at}
use Rattle.cdcl_trail.specs.Running.{IsListRun}
use Rattle.cdcl_trail.proofs.visit_list.visit_list.Given as goal

abbrev pub invariant-loop-place : goal.invariant-loop-place
invariant-loop-place l = IsListRun l.clauses l.level l.l l.place l.initial.watched.values l.initial.watched.pairs.items l.watched.values l.watched.lists.items l.watched.pairs.items

abbrev pub decreases-loop-place : goal.decreases-loop-place
decreases-loop-place l = length (list_at l.watched.lists.items (slot_of l.l)) - l.place
