use Rattle.std.proofs.Common.{◌≡◌, ◌+◌, ◌++◌, ◌∷◌, [], length, reverse}
use Rattle.cdcl_core.proofs.NeedLaws.{IsReached}
use Rattle.cdcl_core.proofs.cut.needed_places.Given as goal

abbrev pub invariant-loop-place : goal.invariant-loop-place
invariant-loop-place l = record {
  size : length l.needed.items ≡ length l.steps + 1;
  reached : IsReached (l.steps ++ l.last ∷ []) l.needed.items l.place (reverse l.places.items);
}
