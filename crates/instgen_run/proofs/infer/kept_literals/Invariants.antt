use Rattle.std.proofs.Common.{◌≡◌, take}
use Rattle.inst_calculus.specs.Parts.{chosen}
use Rattle.instgen_run.proofs.infer.kept_literals.Given as goal

abbrev pub invariant-loop-place : goal.invariant-loop-place
invariant-loop-place l = l.kept ≡ chosen l.literals (take l.place-index l.place-items)
