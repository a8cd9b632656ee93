use Rattle.std.proofs.Common.{◌≡◌, take}
use Rattle.inst_calculus.specs.Parts.{chosen}
use Rattle.cert_check.proofs.part.chosen_literals.Given as goal

abbrev pub invariant-loop-place : goal.invariant-loop-place
invariant-loop-place l = l.literals ≡ chosen l.whole (take l.place-index l.keep)
