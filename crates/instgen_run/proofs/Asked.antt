-- Clauses that are true one by one are all true.
use Rattle.std.proofs.Common.{◌≡◌, ◌⊎◌, inl, inr, ℕ, zero, suc, ◌+◌, ◌<◌, ◌≤◌, List, [], ◌∷◌, length, arith, All, Bool, Some, sym, subst as transport}
use Rattle.std.specs.Prelude.{slice_get}
use Rattle.std.proofs.lemmas.List.Elements.{All-nil, All-cons}
use Rattle.inst_logic.specs.declared.signed.Signed.{Signed}
use Rattle.inst_logic.specs.Truth.{IsTrueLiteral, IsTrueClause}
use Rattle.inst_logic.proofs.Membership.{in_any, contains_in}
use Rattle.inst_logic.proofs.ShownLaws.{at_number_contains}
use Rattle.prop_logic.specs.Valuation.{IsHeld}
use Rattle.prop_logic.specs.Solving.{Satisfies}
use Rattle.instgen_select.specs.Choices.{IsTrueAt}
use Rattle.instgen_run.specs.Solves.{IsTrueEntry}

true_clause : (c : List (Signed ℕ)) (bits : List Bool) (p : ℕ) → IsTrueAt c bits p → IsTrueClause (IsHeld bits) c
true_clause c bits p (l, at, holds) = in_any (IsTrueLiteral (IsHeld bits)) l c (contains_in l c (at_number_contains c p l at)) holds

pub all_true : (literals : List (List (Signed ℕ))) (bits : List Bool) → ((i : ℕ) → i < length literals → IsTrueEntry literals bits i) → All (IsTrueClause (IsHeld bits)) literals
all_true [] bits h = All-nil (IsTrueClause (IsHeld bits))
all_true (c ∷ cs) bits h =
    let (d, e, p, t) = h 0 (omega arith) in
    let q : c ≡ d = cc in
    All-cons (IsTrueClause (IsHeld bits)) c cs (transport (IsTrueClause (IsHeld bits)) (sym q) (true_clause d bits p t)) (all_true cs bits (λ i l. h (suc i) (omega arith)))

low_or_high : (i j : ℕ) → (i < j) ⊎ (j ≤ i)
low_or_high zero zero = inr (omega arith)
low_or_high zero (suc j) = inl (omega arith)
low_or_high (suc i) zero = inr (omega arith)
low_or_high (suc i) (suc j) = elim (low_or_high i j) [ inl l ↦ inl (omega arith) | inr l ↦ inr (omega arith) ]

-- those before the one at k, and that one
pub one_more : (literals : List (List (Signed ℕ))) (bits : List Bool) (count k : ℕ) (c : List (Signed ℕ)) → slice_get literals k ≡ Some c → (p : ℕ) × IsTrueAt c bits p
    → ((i : ℕ) → count ≤ i → i < k → IsTrueEntry literals bits i) → (i : ℕ) → count ≤ i → i < k + 1 → IsTrueEntry literals bits i
one_more literals bits count k c at holds h i a b = elim (low_or_high i k) [
  | inl l ↦ h i a l
  | inr l ↦ let q : k ≡ i = omega arith in transport (IsTrueEntry literals bits) q (c, at, holds.0, holds.1)
]

pub both_parts : (literals : List (List (Signed ℕ))) (bits : List Bool) (count : ℕ) → ((i : ℕ) → i < count → IsTrueEntry literals bits i) → ((i : ℕ) → count ≤ i → i < length literals → IsTrueEntry literals bits i)
    → All (IsTrueClause (IsHeld bits)) literals
both_parts literals bits count first after = all_true literals bits (λ i l. go i l (low_or_high i count))
  where
    go : (i : ℕ) → i < length literals → (i < count) ⊎ (count ≤ i) → IsTrueEntry literals bits i
    go i l (inl a) = first i a
    go i l (inr b) = after i b l

-- a valuation that makes them true answers
pub satisfied : (atoms : ℕ) (added literals : List (List (Signed ℕ))) (bits : List Bool) → added ≡ literals → length bits ≤ atoms → All (IsTrueClause (IsHeld bits)) literals → Satisfies atoms added [] bits
satisfied atoms added literals bits given width hold = record {
  makes_true = record { clauses_true = transport (All (IsTrueClause (IsHeld bits))) (sym given) hold; assumptions_true = All-nil (IsTrueLiteral (IsHeld bits)) };
  within = width;
}
