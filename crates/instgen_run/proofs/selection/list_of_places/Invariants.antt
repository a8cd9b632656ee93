use Rattle.std.proofs.Common.{◌≡◌, take}
use Rattle.instgen_run.proofs.selection.list_of_places.Given as goal

abbrev pub invariant-loop-place : goal.invariant-loop-place
invariant-loop-place l = l.list.items ≡ take l.place-index l.places
