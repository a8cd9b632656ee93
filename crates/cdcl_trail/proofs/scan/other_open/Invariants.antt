use Rattle.std.proofs.Common.{◌≡◌, ◌⊎◌, take}
use Rattle.std.specs.Prelude.{All}
use Rattle.cdcl_trail.specs.Propagation.{IsFalseIn}
use Rattle.cdcl_trail.specs.Values.{entries_of}
use Rattle.cdcl_trail.proofs.scan.other_open.Given as goal

abbrev pub invariant-loop-lit : goal.invariant-loop-lit
invariant-loop-lit l = All (λ m. IsFalseIn (entries_of l.values) m ⊎ (m ≡ l.other)) (take l.lit-index l.clause)
