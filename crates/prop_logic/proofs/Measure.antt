-- The number of the entries rises with each entry, and where one with a reason takes the place of one without.
use Rattle.std.proofs.Common.{◌≡◌, ℕ, suc, zero, ◌+◌, ◌*◌, ◌^◌, ◌<◌, ◌≤◌, Bool, true, false, cond, List, [], ◌∷◌, ◌++◌, length, take, Some, None, ap, ◌∙◌, arith}
use Rattle.std.specs.Prelude.{slice_get, is_some}
use Rattle.std.proofs.lemmas.Option.{same_Some}
use Rattle.std.proofs.Math.Nat.{one-le-pow, pow-suc}
use Rattle.prop_logic.specs.declared.literal.Hint.{Hint}
use Rattle.prop_logic.specs.declared.search.Entry.{Entry}
use Rattle.prop_logic.specs.Search.{weight}

abbrev digit : Entry → ℕ
digit e = cond (is_some e.reason) 2 1

digit_low : (e : Entry) → (1 ≤ digit e) × (digit e ≤ 2)
digit_low e = by_reason (is_some e.reason)
  where
    by_reason : (b : Bool) → (1 ≤ cond b 2 1) × (cond b 2 1 ≤ 2)
    by_reason true = (omega arith, omega arith)
    by_reason false = (omega arith, omega arith)

power : (n : ℕ) → 3 ^ suc n ≡ 3 ^ n + 3 ^ n + 3 ^ n
power n = let p = pow-suc 3 n in omega (arith, p)

some_power : (n : ℕ) → 1 ≤ 3 ^ n
some_power n = one-le-pow n 3 (omega arith)

-- a digit at its place
at_place : (d k : ℕ) → 1 ≤ d → d ≤ 2 → (k ≤ d * k) × (d * k ≤ k + k)
at_place (suc zero) k h g = (omega arith, omega arith)
at_place (suc (suc zero)) k h g = (omega arith, omega arith)
at_place zero k h g = absurd (omega arith)
at_place (suc (suc (suc d))) k h g = absurd (omega arith)

pub weight_below : (n : ℕ) (es : List Entry) → length es ≤ n → weight n es < 3 ^ n
weight_below n [] h = omega (arith, some_power n)
weight_below zero (e ∷ es) h = absurd (omega arith)
weight_below (suc n) (e ∷ es) h =
    let rest = weight_below n es (omega arith) in
    let d = digit_low e in
    let p = at_place (digit e) (3 ^ n) d.0 d.1 in
    omega (arith, rest, p.1, power n)

pub weight_push : (n : ℕ) (es : List Entry) (e : Entry) → length es < n → weight n es < weight n (es ++ e ∷ [])
weight_push zero es e h = absurd (omega arith)
weight_push (suc n) [] e h =
    let d = digit_low e in
    let p = at_place (digit e) (3 ^ n) d.0 d.1 in
    omega (arith, p.0, some_power n)
weight_push (suc n) (x ∷ es) e h = omega (arith, weight_push n es e (omega arith))

chosen_digit : (e : Entry) → e.reason ≡ None → digit e ≡ 1
chosen_digit e h = ap (λ o. cond (is_some o) 2 1) h

implied_digit : (e : Entry) (r : Hint) → e.reason ≡ Some r → digit e ≡ 2
implied_digit e r h = ap (λ o. cond (is_some o) 2 1) h

-- the entries up to a choice, and an implied literal in its place
pub weight_flip : (n : ℕ) (es : List Entry) (p : ℕ) (e d : Entry) (r : Hint) → length es ≤ n → slice_get es p ≡ Some e → e.reason ≡ None → d.reason ≡ Some r → weight n es < weight n (take p es ++ d ∷ [])
weight_flip n [] p e d r h at chosen implied = absurd cc
weight_flip zero (x ∷ es) p e d r h at chosen implied = absurd (omega arith)
weight_flip (suc n) (x ∷ es) zero e d r h at chosen implied =
    let rest = weight_below n es (omega arith) in
    let one : digit x * 3 ^ n ≡ 3 ^ n = ap (λ k. k * 3 ^ n) (chosen_digit x (ap (λ y. y.reason) (same_Some x e at) ∙ chosen)) ∙ (let k : 1 * 3 ^ n ≡ 3 ^ n = omega arith in k) in
    let two : digit d * 3 ^ n ≡ 3 ^ n + 3 ^ n = ap (λ k. k * 3 ^ n) (implied_digit d r implied) ∙ (let k : 2 * 3 ^ n ≡ 3 ^ n + 3 ^ n = omega arith in k) in
    omega (arith, rest, one, two)
weight_flip (suc n) (x ∷ es) (suc p) e d r h at chosen implied = omega (arith, weight_flip n es p e d r (omega arith) at chosen implied)
