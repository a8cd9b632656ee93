use Rattle.std.proofs.Common.{◌≡◌, ◌+◌}
use Rattle.cdcl_core.specs.Search.{IsKept}
use Rattle.cdcl_core.proofs.fresh_start.grow.Given as goal

abbrev pub invariant-loop : goal.invariant-loop
invariant-loop l = record {
  kept : IsKept l.search;
  atoms : l.search.trail.trail.atoms ≡ l.initial.search.trail.trail.atoms + l.counter;
  added : l.search.log.added ≡ l.initial.search.log.added;
}
