use Rattle.std.proofs.Common.{take}
use Rattle.std.specs.List.{AllZip}
use Rattle.cdcl_core.specs.Cut.{IsRenamed}
use Rattle.cdcl_core.proofs.cut.renumber.Given as goal

abbrev pub invariant-loop-hint : goal.invariant-loop-hint
invariant-loop-hint l = AllZip (IsRenamed l.numbers) (take l.hint-index l.hints) l.others.items
