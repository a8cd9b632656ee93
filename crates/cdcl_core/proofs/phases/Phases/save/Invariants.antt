use Rattle.std.proofs.Common.{◌≡◌, length, take}
use Rattle.std.specs.Prelude.{All}
use Rattle.cdcl_core.specs.Phases.{IsSaved}
use Rattle.cdcl_core.proofs.phases.Phases.save.Given as goal

abbrev pub invariant-loop-place : goal.invariant-loop-place
invariant-loop-place l = record {
  size : length l.self.values ≡ l.trail.trail.atoms;
  saved : All (IsSaved l.self.values) (take l.place l.trail.trail.entries);
}
