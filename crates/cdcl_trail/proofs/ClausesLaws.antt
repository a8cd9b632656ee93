-- Clauses by their numbers.
use Rattle.std.proofs.Common.{◌≡◌, ◌≢◌, ℕ, suc, zero, ◌+◌, ◌-◌, ◌≤◌, List, [], ◌∷◌, length, get_or, Option, Some, None, refl, sym, ap, ◌∙◌, arith}
use Rattle.std.specs.Prelude.{slice_get}
use Rattle.inst_logic.specs.declared.signed.Signed.{Signed}
use Rattle.cdcl_trail.specs.Clauses.{clause_in, clause_number, AddsClause}

in_slots : (slots : List (Option (List (Signed ℕ)))) (k : ℕ) → get_or slots k None ≡ clause_in (slice_get slots k)
in_slots [] k = refl
in_slots (o ∷ os) zero = by_value o
  where
    by_value : (o : Option (List (Signed ℕ))) → o ≡ clause_in (Some o)
    by_value o = refl
in_slots (o ∷ os) (suc k) = in_slots os k

pub by_key : (slots : List (Option (List (Signed ℕ)))) (k : ℕ) → get_or slots k None ≡ clause_number slots (k + 1)
by_key slots k =
    let s : suc k ≡ k + 1 = omega arith in
    in_slots slots k ∙ ap (clause_number slots) s

pub by_number : (slots : List (Option (List (Signed ℕ)))) (n : ℕ) → n ≢ 0 → get_or slots (n - 1) None ≡ clause_number slots n
by_number slots n h =
    let s : n - 1 + 1 ≡ n = omega (arith, h) in
    by_key slots (n - 1) ∙ ap (clause_number slots) s

pub adds : (old new : List (Option (List (Signed ℕ)))) (clause : List (Signed ℕ)) (key : ℕ)
    → get_or old key None ≡ None → get_or new key None ≡ Some clause → ((k : ℕ) → k ≢ key → get_or new k None ≡ get_or old k None) → (old ≡ [] → key ≡ 0)
    → AddsClause old new clause (key + 1)
adds old new clause key free added others first = record {
  free = sym (by_key old key) ∙ free;
  added = sym (by_key new key) ∙ added;
  others = λ k n. by_case k n;
  first = λ e. ap (λ n. n + 1) (first e);
}
  where
    by_case : (k : ℕ) → (k ≡ key + 1 → ⊥) → clause_number new k ≡ clause_number old k
    by_case zero n = refl
    by_case (suc k) n =
        let other : k ≢ key = λ e. n (omega (arith, e)) in
        sym (in_slots new k) ∙ others k other ∙ in_slots old k

-- past the slots there is no clause
pub none_past : (slots : List (Option (List (Signed ℕ)))) (k : ℕ) → length slots ≤ k → slice_get slots k ≡ None
none_past [] k h = refl
none_past (o ∷ os) zero h = absurd (omega (arith, h))
none_past (o ∷ os) (suc k) h = none_past os k (omega (arith, h))
