use Rattle.std.proofs.Common.{◌≡◌, ◌++◌, map, take, drop}
use Rattle.std.specs.Prelude.{vec_capacity}
use Rattle.cdcl_trail.specs.Detach.{unpassed}
use Rattle.cdcl_trail.proofs.detach.unpass_all.Given as goal

abbrev pub invariant-loop-place : goal.invariant-loop-place
invariant-loop-place l = record {
  done : l.heads.items ≡ map unpassed (take l.place l.initial.heads.items) ++ drop l.place l.initial.heads.items;
  capacity : vec_capacity l.heads ≡ vec_capacity l.initial.heads;
}
