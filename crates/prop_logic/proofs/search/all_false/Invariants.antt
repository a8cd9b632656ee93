use Rattle.std.proofs.Common.{take}
use Rattle.std.specs.Prelude.{All}
use Rattle.prop_logic.specs.Search.{IsFalseIn}
use Rattle.prop_logic.proofs.search.all_false.Given as goal

abbrev pub invariant-loop-lit : goal.invariant-loop-lit
invariant-loop-lit l = All (IsFalseIn l.entries) (take l.lit-index l.clause)
