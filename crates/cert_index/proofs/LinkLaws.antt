-- Chains through items with numbers, and what a walk along them adds.
use Rattle.std.proofs.Common.{inl, inr, ℕ, suc, ◌<◌, ◌≤◌, List, length, sym, subst, arith}
use Rattle.std.specs.List.{Contains}
use Rattle.std.proofs.lemmas.Bool.{cases_eq, cases_lt}
use Rattle.cert_index.specs.Links.{AreAdded, IsAddedFrom, IsNextOf}

module _ (ns : List ℕ) where
  -- a walk along the chain of one number
  module _ (n from : ℕ) where
    pub added_none : (p : ℕ) (js : List ℕ) → IsNextOf ns n 0 p → AreAdded ns n from p js js
    added_none p js next = record { kept = λ k h. h; added = λ k low less within is. absurd (next.before k (omega arith) less within is); only = λ k h. inl h }

    pub added_more : (j p : ℕ) (old mid new : List ℕ) → j < length ns → IsNextOf ns n (suc j) p → AreAdded ns n from j old mid → IsAddedFrom from j mid new → AreAdded ns n from p old new
    added_more j p old mid new inside next before here = record {
      kept = λ k h. here.kept k (before.kept k h);
      added = λ k low less within is. elim (cases_lt k j) [
        | inl early ↦ here.kept k (before.added k low early within is)
        | inr more ↦ elim (cases_eq k j) [
          | inl same ↦ subst (Contains new) (sym same) (here.added (omega arith))
          | inr other ↦ absurd (next.before k (omega arith) less within is)
        ]
      ];
      only = λ k h. elim (here.only k h) [
        | inl there ↦ before.only k there
        | inr late ↦ inr (late.0, subst (λ q. q < length ns) (sym late.1) inside)
      ];
    }

    pub added_all : (j : ℕ) (old new : List ℕ) → length ns ≤ j → AreAdded ns n from j old new → AreAdded ns n from (length ns) old new
    added_all j old new past h = record { kept = h.kept; added = λ k low less within is. h.added k low (omega arith) within is; only = h.only }
