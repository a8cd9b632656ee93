-- Places that come out of a heap.
use Rattle.std.proofs.Common.{◌≡◌, ◌⊎◌, inl, inr, ℕ, suc, zero, ◌<◌, ◌≤◌, List, ◌∷◌, IsPermutation, sym, arith}
use Rattle.std.specs.Prelude.{Contains}
use Rattle.std.specs.BinaryHeap.{IsUpperBound}
use Rattle.std.specs.Ordering.{nat_cmp}
use Rattle.std.proofs.lemmas.Bool.{cases_eq}
use Rattle.std.proofs.lemmas.List.Elements.{All-contains}
use Rattle.std.proofs.lemmas.List.Sorted.{Contains-permutation, IsPermutation-sym, le_from_greatest}
use Rattle.inst_logic.proofs.Items.{contains_here, contains_there}
use Rattle.cdcl_core.specs.Places.{IsTaken}

pub here_or_rest : (x k : ℕ) (rest : List ℕ) → Contains (x ∷ rest) k → (k ≡ x) ⊎ Contains rest k
here_or_rest x k rest (zero, h, e) = inl (sym e)
here_or_rest x k rest (suc i, h, e) = inr (i, omega (arith, h), e)

pub popped_rest : (heap rest : List ℕ) (x k : ℕ) → IsPermutation heap (x ∷ rest) → Contains rest k → Contains heap k
popped_rest heap rest x k p c = Contains-permutation (x ∷ rest) heap k (IsPermutation-sym heap (x ∷ rest) p) (contains_there x k rest c)

pub popped_other : (heap rest : List ℕ) (x k : ℕ) → IsPermutation heap (x ∷ rest) → (k ≡ x → ⊥) → Contains heap k → Contains rest k
popped_other heap rest x k p n c = elim (here_or_rest x k rest (Contains-permutation heap (x ∷ rest) k p c)) [ inl same ↦ absurd (n same) | inr inside ↦ inside ]

-- what came out is the last of those below the limit
pub taken : (limit : ℕ) (first heap rest : List ℕ) (x : ℕ) → ((k : ℕ) → k < limit → Contains first k → Contains heap k) → ((k : ℕ) → Contains heap k → Contains first k) → IsPermutation heap (x ∷ rest) → IsUpperBound nat_cmp x heap → x < limit → IsTaken limit first rest x
taken limit first heap rest x kept old p top low = record {
  below = low;
  here = old x (Contains-permutation (x ∷ rest) heap x (IsPermutation-sym heap (x ∷ rest) p) (contains_here x rest));
  others = λ k under c. elim (cases_eq k x) [
    | inl same ↦ inl same
    | inr other ↦
        let up : k ≤ x = All-contains (λ y. y ≤ x) heap k (le_from_greatest x heap top) (kept k under c) in
        inr (omega (arith, up, other), popped_other heap rest x k p other (kept k under c))
  ];
  rest = λ k c. old k (popped_rest heap rest x k p c);
}
