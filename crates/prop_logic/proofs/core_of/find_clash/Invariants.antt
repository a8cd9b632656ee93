use Rattle.std.proofs.Common.{◌≢◌, take}
use Rattle.std.specs.Prelude.{All}
use Rattle.inst_logic.specs.Signed.{complement}
use Rattle.prop_logic.proofs.core_of.find_clash.Given as goal

abbrev pub invariant-loop-lit : goal.invariant-loop-lit
invariant-loop-lit l = All (λ k. All (λ m. m ≢ complement k) l.assumptions) (take l.lit-index l.assumptions)
