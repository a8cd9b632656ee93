-- a number that rises with each decision, each value and each backjump, and stays below a bound
use Rattle.std.proofs.Common.{◌≡◌, ℕ, suc, ◌+◌, ◌-◌, ◌*◌, ◌^◌, ◌<◌, ◌≤◌, Bool, true, false, cond, List, [], ◌∷◌, ◌++◌, length, refl, ap, ◌∙◌, arith}
use Rattle.std.specs.Prelude.{nat_le}
use Rattle.std.proofs.lemmas.Bool.{leb-false}
use Rattle.std.proofs.Math.Nat.{one-le-pow, pow-le-pow_right, pow-suc, mul-le-mul_right}
use Rattle.cdcl_trail.specs.declared.entry.Entry.{Entry}
use Rattle.cdcl_trail.specs.Trail.{entries_up_to}
use Rattle.cdcl_core.specs.Search.{weight}

pub weight_append : (n : ℕ) (xs ys : List Entry) → weight n (xs ++ ys) ≡ weight n xs + weight n ys
weight_append n [] ys = omega arith
weight_append n (x ∷ xs) ys = omega (arith, weight_append n xs ys)

one_at_least : (n k : ℕ) → 1 ≤ (n + 1) ^ k
one_at_least n k = one-le-pow k (n + 1) (omega arith)

-- a decision and a value raise it
pub weight_push : (n : ℕ) (xs : List Entry) (e : Entry) → weight n xs < weight n (xs ++ e ∷ [])
weight_push n xs e = omega (arith, weight_append n xs (e ∷ []), one_at_least n (n - e.level))

-- it stays below a bound
pub weight_bound : (n : ℕ) (xs : List Entry) → weight n xs ≤ length xs * (n + 1) ^ n
weight_bound n [] = omega arith
weight_bound n (x ∷ xs) =
    let p : (n + 1) ^ (n - x.level) ≤ (n + 1) ^ n = pow-le-pow_right (omega arith) (omega arith) in
    let h = weight_bound n xs in
    let e : suc (length xs) * (n + 1) ^ n ≡ length xs * (n + 1) ^ n + (n + 1) ^ n = omega arith in
    omega arith

pub weight_below : (n : ℕ) (xs : List Entry) → length xs ≤ n → weight n xs < (n + 1) ^ (n + 1)
weight_below n xs h =
    let b = weight_bound n xs in
    let m = mul-le-mul_right ((n + 1) ^ n) h in
    let p : (n + 1) ^ (n + 1) ≡ (n + 1) ^ n * (n + 1) = ap (λ k. (n + 1) ^ k) (omega arith) ∙ pow-suc (n + 1) n in
    let q : (n + 1) ^ n * (n + 1) ≡ n * (n + 1) ^ n + (n + 1) ^ n = omega arith in
    let o = one_at_least n n in
    omega arith

-- what a backjump takes away is less than one literal at its level
kept_or_less : (n j : ℕ) (xs : List Entry) → weight n xs ≤ weight n (entries_up_to xs j) + length xs * (n + 1) ^ (n - (j + 1))
kept_or_less n j [] = omega arith
kept_or_less n j (x ∷ xs) = by_level (nat_le x.level j) refl (kept_or_less n j xs)
  where
    big : ℕ
    big = (n + 1) ^ (n - (j + 1))

    by_level : (b : Bool) → nat_le x.level j ≡ b → weight n xs ≤ weight n (entries_up_to xs j) + length xs * (n + 1) ^ (n - (j + 1))
        → (n + 1) ^ (n - x.level) + weight n xs ≤ weight n (cond b (x ∷ entries_up_to xs j) (entries_up_to xs j)) + suc (length xs) * (n + 1) ^ (n - (j + 1))
    by_level true e h =
        let q : suc (length xs) * (n + 1) ^ (n - (j + 1)) ≡ length xs * (n + 1) ^ (n - (j + 1)) + (n + 1) ^ (n - (j + 1)) = omega arith in
        omega arith
    by_level false e h =
        let above : j < x.level = leb-false x.level j e in
        let p : (n + 1) ^ (n - x.level) ≤ (n + 1) ^ (n - (j + 1)) = pow-le-pow_right (omega arith) (omega arith) in
        let q : suc (length xs) * (n + 1) ^ (n - (j + 1)) ≡ length xs * (n + 1) ^ (n - (j + 1)) + (n + 1) ^ (n - (j + 1)) = omega arith in
        omega arith

-- a backjump with the value that its learned clause gives raises it
pub weight_backjump : (n j : ℕ) (xs : List Entry) (e : Entry) → length xs ≤ n → j < n → e.level ≡ j → weight n xs < weight n (entries_up_to xs j ++ e ∷ [])
weight_backjump n j xs e h low at =
    let k = kept_or_less n j xs in
    let m = mul-le-mul_right ((n + 1) ^ (n - (j + 1))) h in
    let s : n - j ≡ suc (n - (j + 1)) = omega arith in
    let p : (n + 1) ^ (n - j) ≡ (n + 1) ^ (n - (j + 1)) * (n + 1) = ap (λ i. (n + 1) ^ i) s ∙ pow-suc (n + 1) (n - (j + 1)) in
    let q : (n + 1) ^ (n - (j + 1)) * (n + 1) ≡ n * (n + 1) ^ (n - (j + 1)) + (n + 1) ^ (n - (j + 1)) = omega arith in
    let o = one_at_least n (n - (j + 1)) in
    let a = weight_append n (entries_up_to xs j) (e ∷ []) in
    let l : (n + 1) ^ (n - e.level) ≡ (n + 1) ^ (n - j) = ap (λ i. (n + 1) ^ (n - i)) at in
    omega arith
