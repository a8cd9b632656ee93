use Rattle.std.proofs.Common.{◌≡◌, ℕ, ◌<◌, suc, Some, length, get_or}
use Rattle.std.specs.Prelude.{slice_get}
use Rattle.cdcl_core.proofs.cut.numbers_of.Given as goal

abbrev pub invariant-loop-i : goal.invariant-loop-i
invariant-loop-i l = record {
  size : length l.numbers.items ≡ l.count;
  numbered : (j : ℕ) → j < l.i → slice_get l.numbers.items (get_or l.places j 0) ≡ Some (suc j);
}
