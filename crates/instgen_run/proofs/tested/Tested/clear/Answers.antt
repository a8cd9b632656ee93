use Rattle.std.proofs.Common.{arith, sym, subst, List, ℕ}
use Rattle.std.specs.Prelude.{map, ◌==◌}
use Rattle.instgen_run.specs.Tested.{IsTested}
use Rattle.instgen_run.proofs.TestedLaws.{none_is_tested, no_zero_is_tested}
use Rattle.instgen_run.proofs.tested.Tested.clear.Goals as goal

pub returns-then-self-lt4294967295 : goal.returns-then-self-lt4294967295
returns-then-self-lt4294967295 c =
    none_is_tested c.self.inside.stamps.items c.self.inside.present _ c.self.invariant.below (omega arith)

pub returns-else-self-lt4294967295 : goal.returns-else-self-lt4294967295
returns-else-self-lt4294967295 c =
    subst (λ (xs : List ℕ). (k : ℕ) → ¬ IsTested (map (λ s. s == 1) xs) k) (sym (c.fill.ensures.items (λ y h. h))) (no_zero_is_tested _ 1 (omega arith))
