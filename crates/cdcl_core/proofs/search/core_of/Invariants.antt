use Rattle.std.proofs.Common.{take}
use Rattle.cdcl_core.specs.Search.{IsCoreIn}
use Rattle.cdcl_core.proofs.search.core_of.Given as goal

abbrev pub invariant-loop-lit : goal.invariant-loop-lit
invariant-loop-lit l = IsCoreIn l.trail.trail.entries l.seen l.refuted (take l.lit-index l.assumptions) l.core
