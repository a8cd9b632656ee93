use Rattle.std.proofs.Common.{take}
use Rattle.std.specs.Prelude.{All, Contains}
use Rattle.inst_logic.specs.Signed.{complement}
use Rattle.proof_log.proofs.propagation.is_tautology.Given as goal

-- no pair so far
abbrev pub invariant-loop-lit : goal.invariant-loop-lit
invariant-loop-lit l = All (λ m. ¬ Contains l.clause (complement m)) (take l.lit-index l.clause)
