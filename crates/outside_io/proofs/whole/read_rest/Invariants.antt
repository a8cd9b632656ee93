use Rattle.std.proofs.Common.{◌≤◌, ◌-◌, length}
use Rattle.std.specs.Io.KnownBytes.{Consumes}
use Rattle.outside_io.specs.Causes.{RisesAtMost}
use Rattle.outside_io.specs.Told.{Follows}
use Rattle.outside_io.proofs.whole.read_rest.Given as goal

abbrev pub invariant-loop-count : goal.invariant-loop-count
invariant-loop-count g l = record {
  follows : Follows (g.L.Library.told l.initial.files) (g.L.Library.told l.files);
  taken : Consumes (g.L.Library.told l.initial.files).rest (g.L.Library.told l.files).rest l.bytes.items;
  reads : RisesAtMost (length l.bytes.items) (g.L.Library.reads l.initial.files) (g.L.Library.reads l.files);
  within : length l.bytes.items ≤ l.limit;
}

abbrev pub decreases-loop-count : goal.decreases-loop-count
decreases-loop-count g l = l.limit - length l.bytes.items
