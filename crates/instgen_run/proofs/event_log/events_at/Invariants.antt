use Rattle.std.proofs.Common.{◌≡◌, ◌++◌, length, drop}
use Rattle.instgen_run.specs.Marks.{events_from, origins_of, AreInOrder}
use Rattle.instgen_run.proofs.event_log.events_at.Given as goal

abbrev pub invariant-loop-mark : goal.invariant-loop-mark
invariant-loop-mark l = record {
  same : l.events.items ++ events_from l.flips (origins_of l.clauses.entries) l.flipped l.done (drop l.mark-index l.marks) ≡ events_from l.flips (origins_of l.clauses.entries) 0 0 l.marks;
  ordered : AreInOrder (length l.flips) (length (origins_of l.clauses.entries)) l.flipped l.done (drop l.mark-index l.marks);
}
