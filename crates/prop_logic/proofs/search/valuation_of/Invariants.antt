use Rattle.std.proofs.Common.{◌≡◌, map, take}
use Rattle.prop_logic.proofs.search.valuation_of.Given as goal

abbrev pub invariant-loop-entry : goal.invariant-loop-entry
invariant-loop-entry l = l.valuation ≡ map (λ e. e.value) (take l.entry-index l.entries)
