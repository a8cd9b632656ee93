use Rattle.std.proofs.Common.{◌≡◌, map, take}
use Rattle.inst_logic.specs.Signed.{complement}
use Rattle.prop_logic.proofs.literal.complements.Given as goal

abbrev pub invariant-loop-lit : goal.invariant-loop-lit
invariant-loop-lit l = l.others ≡ map complement (take l.lit-index l.literals)
