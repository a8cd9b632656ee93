use Rattle.std.proofs.Common.{◌≡◌, ◌++◌, ◌≤◌, slice_range}
use Rattle.instgen_run.specs.Marks.{inferred, origins_of}
use Rattle.instgen_run.proofs.event_log.add_entries.Given as goal

abbrev pub invariant-loop-i : goal.invariant-loop-i
invariant-loop-i l = record {
  told : l.events.items ≡ l.fn.events.items ++ inferred (slice_range (origins_of l.clauses.entries) l.done l.i);
  within : l.done ≤ l.i;
}
