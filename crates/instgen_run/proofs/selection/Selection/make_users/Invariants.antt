use Rattle.std.proofs.Common.{◌≡◌, ◌≤◌, length}
use Rattle.instgen_run.specs.Choosing.{AreUsersKept}
use Rattle.instgen_run.proofs.selection.Selection.make_users.Given as goal

abbrev pub invariant-loop : goal.invariant-loop
invariant-loop l = record {
  places : l.self-inside.places.items ≡ l.fn.self.places;
  kept : AreUsersKept l.fn.self.users l.self-inside.users.items;
  count : l.counter ≤ length l.self-inside.users.items;
}
