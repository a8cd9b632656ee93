use Rattle.std.proofs.Common.{take}
use Rattle.prop_logic.proofs.SearchLaws.{IsCoreOf}
use Rattle.prop_logic.proofs.core_of.core_of.Given as goal

abbrev pub invariant-loop-lit : goal.invariant-loop-lit
invariant-loop-lit l = IsCoreOf l.clause (take l.lit-index l.assumptions) l.core
