-- One clause is the first that has functions.
use Rattle.std.proofs.Common.{◌≡◌, ℕ, zero, suc, ◌<◌, ◌-◌, List, take, Some, inl, inr, ap, arith, subst}
use Rattle.std.specs.Prelude.{IsTrue, slice_get}
use Rattle.std.proofs.lemmas.Bool.{cases_order}
use Rattle.inst_logic.specs.Clauses.{TreeClause}
use Rattle.inst_logic.specs.Measure.{clause_applies, is_function_free}
use Rattle.inst_logic.proofs.Booleans.{not_true}
use Rattle.inst_logic.proofs.Items.{at_number_contains, slice_get_contains, take_slice_get}
use Rattle.inst_logic.proofs.Membership.{any_false, contains_in}
use Rattle.szs_prove.specs.Applications.{IsFirstWithFunctions}

pub not_free : (cs : List TreeClause) (n : ℕ) → IsFirstWithFunctions cs n → IsTrue (is_function_free cs) → ⊥
not_free cs n first free = any_false clause_applies cs (not_true _ free) first.clause (contains_in first.clause cs (at_number_contains cs n first.clause first.is)) first.applies

-- no clause before the first one has functions
before : (cs : List TreeClause) (n k : ℕ) (c : TreeClause) → IsTrue (is_function_free (take n cs)) → k < n → slice_get cs k ≡ Some c → IsTrue (clause_applies c) → ⊥
before cs n k c free less is applies =
    any_false clause_applies (take n cs) (not_true _ free) c (contains_in c (take n cs) (slice_get_contains (take n cs) k c (take_slice_get cs n k c less is))) applies

pub one_first : (cs : List TreeClause) (m n : ℕ) → IsFirstWithFunctions cs m → IsFirstWithFunctions cs n → m ≡ n
one_first cs zero n h k = let e = h.is in absurd cc
one_first cs (suc m) zero h k = let e = k.is in absurd cc
one_first cs (suc m) (suc n) h k = elim (cases_order m n) [
  | inl same ↦ ap suc same
  | inr (inl less) ↦ let e : suc n - 1 ≡ n = omega arith in absurd (before cs n m h.clause (subst (λ i. IsTrue (is_function_free (take i cs))) e k.first) less h.is h.applies)
  | inr (inr less) ↦ let e : suc m - 1 ≡ m = omega arith in absurd (before cs m n k.clause (subst (λ i. IsTrue (is_function_free (take i cs))) e h.first) less k.is k.applies)
]
