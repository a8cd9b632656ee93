use Rattle.std.proofs.Common.{◌≡◌, ◌≢◌, ◌⊎◌, take}
use Rattle.std.specs.Prelude.{All, Contains}
use Rattle.inst_logic.specs.declared.signed.Signed.{Signed}
use Rattle.std.proofs.Common.{ℕ}
use Rattle.prop_logic.proofs.resolution.add_others.Given as goal

abbrev pub invariant-loop-lit : goal.invariant-loop-lit
invariant-loop-lit l = record {
  kept : (m : Signed ℕ) → Contains l.initial.clause m → Contains l.clause m;
  added : All (λ m. (m.atom ≡ l.atom) ⊎ Contains l.clause m) (take l.lit-index l.literals);
  from : (m : Signed ℕ) → Contains l.clause m → Contains l.initial.clause m ⊎ (Contains l.literals m × (m.atom ≢ l.atom));
}
