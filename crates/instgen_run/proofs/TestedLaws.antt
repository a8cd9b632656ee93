-- stamps as sets of entries
use Rattle.std.proofs.Common.{◌≡◌, ℕ, zero, suc, ◌<◌, ◌≤◌, false, List, [], ◌∷◌, ◌++◌, map, replicate, arith}
use Rattle.std.specs.Prelude.{All, ◌==◌}
use Rattle.std.proofs.lemmas.List.Elements.{All-head, All-tail, All-replicate}
use Rattle.std.proofs.lemmas.Bool.Decides.{nat_tests}
use Rattle.instgen_run.specs.Tested.{IsTested}

-- no stamp is the new one
pub none_is_tested : (xs : List ℕ) (p q : ℕ) → All (λ s. s ≤ p) xs → p < q → (k : ℕ) → ¬ IsTested (map (λ s. s == q) xs) k
none_is_tested [] p q a h k e = cc
none_is_tested (x ∷ xs) p q a h zero e =
    let l : x ≤ p = All-head (λ s. s ≤ p) x xs a in
    let here : (x == q) ≡ false = grind (arith, nat_tests) in
    cc
none_is_tested (x ∷ xs) p q a h (suc k) e = none_is_tested xs p q (All-tail (λ s. s ≤ p) x xs a) h k e

-- the same where all stamps are 0
pub no_zero_is_tested : (n q : ℕ) → 0 < q → (k : ℕ) → ¬ IsTested (map (λ s. s == q) (replicate n 0)) k
no_zero_is_tested n q h = none_is_tested (replicate n 0) 0 q (All-replicate (λ s. s ≤ 0) n 0 (omega arith)) h

-- zeros at the end add nothing
pub zeros_are_untested : (xs : List ℕ) (n q : ℕ) → 0 < q → (k : ℕ) → IsTested (map (λ s. s == q) (xs ++ replicate n 0)) k → IsTested (map (λ s. s == q) xs) k
zeros_are_untested [] n q h k e = absurd (no_zero_is_tested n q h k e)
zeros_are_untested (x ∷ xs) n q h zero e = e
zeros_are_untested (x ∷ xs) n q h (suc k) e = zeros_are_untested xs n q h k e
