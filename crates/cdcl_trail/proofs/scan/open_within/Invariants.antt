use Rattle.std.proofs.Common.{◌≡◌, ◌⊎◌}
use Rattle.std.specs.List.{AllWithin}
use Rattle.cdcl_trail.specs.Propagation.{IsFalseIn}
use Rattle.cdcl_trail.specs.Values.{entries_of}
use Rattle.cdcl_trail.proofs.scan.open_within.Given as goal

abbrev pub invariant-loop-place : goal.invariant-loop-place
invariant-loop-place l = AllWithin (λ m. IsFalseIn (entries_of l.values) m ⊎ (m ≡ l.other)) l.clause l.start l.place
