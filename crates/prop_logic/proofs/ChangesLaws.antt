-- The walk over the atoms at which two valuations may differ.
use Rattle.std.proofs.Common.{◌≡◌, ℕ, zero, suc, length, ◌+◌, ◌<◌, ◌≤◌, Bool, true, false, not, ◌⊎◌, inl, inr, List, [], ◌∷◌, ◌++◌, get_or, refl, sym, ap, ◌∙◌, subst, arith}
use Rattle.std.specs.Prelude.{Contains}
use Rattle.std.specs.Bool.{beq}
use Rattle.std.specs.List.Sorted.{IsStrictlyIncreasing}
use Rattle.std.proofs.lemmas.List.{length_push}
use Rattle.std.proofs.lemmas.List.Elements.{Contains-push, Contains-append_left, Contains-push_cases}
use Rattle.std.proofs.lemmas.Bool.{cases_eq}
use Rattle.prop_logic.specs.Valuation.{value_at, AreChanges, AreChangesBelow}

-- the values are the same from m on up to n
pub none_changed : (old new : List Bool) (xs : List ℕ) (m n : ℕ) → m ≤ n → ((k : ℕ) → m ≤ k → k < n → value_at old k ≡ value_at new k) → AreChangesBelow m old new xs → AreChangesBelow n old new xs
none_changed old new xs m n h same are k = (
  λ c. let x = (are k).0 c in (omega (arith, x.0, h), x.1),
  λ x. elim (within k) [ inl low ↦ (are k).1 (low, x.1) | inr high ↦ absurd (x.1 (same k high x.0)) ],
)
  where
    within : (k : ℕ) → (k < m) ⊎ (m ≤ k)
    within k = grind arith

pub one_changed : (old new : List Bool) (xs : List ℕ) (n : ℕ) → (value_at old n ≡ value_at new n → ⊥) → AreChangesBelow n old new xs → AreChangesBelow (n + 1) old new (xs ++ n ∷ [])
one_changed old new xs n differ are k = (
  λ c. elim (Contains-push_cases xs n k c) [
    | inl before ↦ let x = (are k).0 before in (omega (arith, x.0), x.1)
    | inr here ↦ (omega (arith, here), λ e. differ (subst (λ j. value_at old j ≡ value_at new j) (sym here) e))
  ],
  λ x. elim (cases_eq k n) [
    | inl here ↦ subst (Contains (xs ++ n ∷ [])) (sym here) (Contains-push xs n)
    | inr other ↦ Contains-append_left xs (n ∷ []) k ((are k).1 (omega (arith, x.0, other), x.1))
  ],
)

get_left : (xs : List ℕ) (n k : ℕ) → k < length xs → get_or (xs ++ n ∷ []) k 0 ≡ get_or xs k 0
get_left [] n k h = absurd (omega (arith, h))
get_left (x ∷ xs) n zero h = refl
get_left (x ∷ xs) n (suc k) h = get_left xs n k (omega (arith, h))

get_last : (xs : List ℕ) (n : ℕ) → get_or (xs ++ n ∷ []) (length xs) 0 ≡ n
get_last [] n = refl
get_last (x ∷ xs) n = get_last xs n

here : (xs : List ℕ) (k : ℕ) → k < length xs → Contains xs (get_or xs k 0)
here xs k h = (k, h, by_place xs k (get_or xs k 0) h)
  where
    by_place : (ys : List ℕ) (i d : ℕ) → i < length ys → get_or ys i d ≡ get_or ys i 0
    by_place [] i d h = absurd (omega (arith, h))
    by_place (y ∷ ys) zero d h = refl
    by_place (y ∷ ys) (suc i) d h = by_place ys i d (omega (arith, h))

-- the atoms before are smaller
pub rising_push : (old new : List Bool) (xs : List ℕ) (n : ℕ) → AreChangesBelow n old new xs → IsStrictlyIncreasing xs → IsStrictlyIncreasing (xs ++ n ∷ [])
rising_push old new xs n are rising k h =
    let inside : k < length xs = omega (arith, h, length_push xs n) in
    elim (cases_eq (k + 1) (length xs)) [
      | inl last ↦
          let low : get_or xs k 0 < n = ((are (get_or xs k 0)).0 (here xs k inside)).0 in
          let top : get_or (xs ++ n ∷ []) (k + 1) 0 ≡ n = ap (λ j. get_or (xs ++ n ∷ []) j 0) last ∙ get_last xs n in
          omega (arith, low, top, get_left xs n k inside)
      | inr other ↦
          let next : k + 1 < length xs = omega (arith, inside, other) in
          omega (arith, rising k next, get_left xs n k inside, get_left xs n (k + 1) next)
    ]

-- past the end all values are false
pub all_changes : (old new : List Bool) (xs : List ℕ) (n : ℕ) → length old ≤ n → length new ≤ n → AreChangesBelow n old new xs → AreChanges old new xs
all_changes old new xs n low_old low_new are k = (λ c. ((are k).0 c).1, λ differ. (are k).1 (below differ, differ))
  where
    past : (ys : List Bool) (i : ℕ) → length ys ≤ i → value_at ys i ≡ false
    past [] i h = refl
    past (y ∷ ys) zero h = absurd (omega (arith, h))
    past (y ∷ ys) (suc i) h = past ys i (omega (arith, h))

    within : (i : ℕ) → (i < n) ⊎ (n ≤ i)
    within i = grind arith

    below : (value_at old k ≡ value_at new k → ⊥) → k < n
    below differ = elim (within k) [ inl low ↦ low | inr high ↦ absurd (differ (past old k (omega (arith, low_old, high)) ∙ sym (past new k (omega (arith, low_new, high))))) ]

pub same_bool : (a b : Bool) → not (beq a b) ≡ false → a ≡ b
same_bool true true e = refl
same_bool true false e = absurd cc
same_bool false true e = absurd cc
same_bool false false e = refl

pub other_bool : (a b : Bool) → not (beq a b) ≡ true → a ≡ b → ⊥
other_bool true true e s = absurd cc
other_bool true false e s = absurd cc
other_bool false true e s = absurd cc
other_bool false false e s = absurd cc
