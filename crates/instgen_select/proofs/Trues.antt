-- True places of a clause whose first literals are not true.
use Rattle.std.proofs.Common.{◌≡◌, refl, ℕ, zero, suc, ◌+◌, ◌<◌, ◌≤◌, List, [], ◌∷◌, sym, ap, ◌∙◌, subst, arith, length, Bool, Option, None, Some, inr, add-one}
use Rattle.std.specs.Prelude.{slice_get, IfSome}
use Rattle.std.proofs.lemmas.Option.{same_Some}
use native.Mathlib.Decide.{dec_lt}
use Rattle.inst_logic.specs.declared.signed.Signed.{Signed}
use Rattle.inst_logic.specs.Truth.{IsTrueLiteral}
use Rattle.prop_logic.specs.Valuation.{IsHeld}
use Rattle.instgen_select.specs.Choices.{IsTrueAt, IsChosen}

pub true_here : (c : List (Signed ℕ)) (v : List Bool) (i : ℕ) (l : Signed ℕ) → slice_get c i ≡ Some l → IsTrueLiteral (IsHeld v) l → IsTrueAt c v (i + 1)
true_here c v i l e t = rw add-one (l, e, t)

below : {X : Type 0} (xs : List X) (k : ℕ) (x : X) → slice_get xs k ≡ Some x → k < length xs
below [] k x e = absurd cc
below (y ∷ ys) zero x e = omega arith
below (y ∷ ys) (suc k) x e = let h = below ys k x e in omega arith

pub true_within : (c : List (Signed ℕ)) (v : List Bool) (p : ℕ) → IsTrueAt c v p → p ≤ length c
true_within c v zero t = omega arith
true_within c v (suc k) t = let h = below c k t.0 t.1 in omega arith

pub one_more_false : (c : List (Signed ℕ)) (v : List Bool) (i : ℕ) (l : Signed ℕ) → slice_get c i ≡ Some l → ((p : ℕ) → p ≤ i → ¬ IsTrueAt c v p) → ¬ IsTrueLiteral (IsHeld v) l
    → (p : ℕ) → p ≤ i + 1 → ¬ IsTrueAt c v p
one_more_false c v i l at h n zero below_it (m, e, t) = cc
one_more_false c v i l at h n (suc k) below_it (m, e, t) = go (dec_lt k i)
  where
    go : Dec (k < i) → ⊥
    go (yes q) = h (suc k) (omega arith) (m, e, t)
    go (no q) =
        let here : k ≡ i = omega arith in
        n (subst (IsTrueLiteral (IsHeld v)) (same_Some m l (sym e ∙ ap (slice_get c) here ∙ at)) t)

pub first_is_chosen : (old : Option ℕ) (c : List (Signed ℕ)) (v : List Bool) (o : Option ℕ) → IfSome old (λ p. ¬ IsTrueAt c v p)
    → IfSome o (λ q. IsTrueAt c v q × ((p : ℕ) → p < q → ¬ IsTrueAt c v p)) → (o ≡ None → (p : ℕ) → ¬ IsTrueAt c v p) → IsChosen old c v o
first_is_chosen old c v None no_old some none = none refl
first_is_chosen old c v (Some q) no_old some none = (some.0, inr (no_old, some.1))
