use Rattle.std.specs.List.Sorted.{IsStrictlyIncreasing}
use Rattle.prop_logic.specs.Valuation.{AreChangesBelow}
use Rattle.prop_logic.proofs.differences.add_changes.Given as goal

abbrev pub invariant-loop-atom : goal.invariant-loop-atom
invariant-loop-atom l = record { before : AreChangesBelow l.atom l.old l.new l.changes.items; rising : IsStrictlyIncreasing l.changes.items }
