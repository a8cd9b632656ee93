use Rattle.std.proofs.Common.{◌≢◌, take}
use Rattle.std.specs.Prelude.{All}
use Rattle.prop_logic.proofs.core_of.assumed_value.Given as goal

abbrev pub invariant-loop-lit : goal.invariant-loop-lit
invariant-loop-lit l = All (λ m. m.atom ≢ l.atom) (take l.lit-index l.assumptions)
