use Rattle.std.proofs.Common.{◌≡◌, ◌++◌, [], ℕ, List, length}
use Rattle.instgen_run.specs.Choosing.{IsUnderWay, AreNumbersPlaced}
use Rattle.instgen_run.proofs.settle.place_new.Given as goal

abbrev pub invariant-loop : goal.invariant-loop
invariant-loop l = record {
  count : l.counter ≡ length l.selection.places;
  under_way : IsUnderWay l.literals l.v [] [] l.selection;
  numbers : AreNumbersPlaced l.selection;
  users : length l.selection.users ≡ length l.fn.selection.users;
  grows : (more : List ℕ) × (l.selection.places ≡ l.fn.selection.places ++ more);
}
