use Rattle.std.proofs.Common.{◌≡◌, take}
use Rattle.cdcl_core.specs.Search.{IsKept}
use Rattle.cdcl_core.proofs.fresh_start.add_all.Given as goal

abbrev pub invariant-loop-place : goal.invariant-loop-place
invariant-loop-place l = record {
  kept : IsKept l.search;
  atoms : l.search.trail.trail.atoms ≡ l.initial.search.trail.trail.atoms;
  added : l.search.log.added ≡ take l.place l.added;
}
