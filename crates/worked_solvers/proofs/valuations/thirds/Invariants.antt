use Rattle.std.proofs.Common.{◌≡◌, length}
use Rattle.worked_solvers.proofs.valuations.thirds.Given as goal

abbrev pub invariant-loop-atom : goal.invariant-loop-atom
invariant-loop-atom l = length l.valuation ≡ l.atom
