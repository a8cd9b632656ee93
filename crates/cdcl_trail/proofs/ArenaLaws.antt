-- Clauses in one list, by their spans.
use Rattle.std.proofs.Common.{◌≡◌, ◌≢◌, ℕ, suc, zero, ◌+◌, ◌-◌, ◌<◌, ◌≤◌, Bool, true, false, List, [], ◌∷◌, ◌++◌, length, set, take, drop, get_or, Option, Some, None, refl, sym, ap, ap₂, ◌∙◌, arith}
use Rattle.std.specs.Prelude.{slice_get, nat_lt}
use Rattle.std.specs.List.{slice_range}
use Rattle.std.proofs.lemmas.Bool.{lt-ltb, le-ltb, ltb-false}
use Rattle.std.proofs.lemmas.List.{get_or-map, length-drop, drop-append-le, take-append-le}
use Rattle.std.proofs.Math.Seq.{drop-append_seam, take-length}
use Rattle.inst_logic.specs.declared.signed.Signed.{Signed}
use Rattle.prop_logic.proofs.ListLaws.{slice_get_set, slice_get_set_other}
use Rattle.cdcl_trail.specs.Arena.{clause_at, clauses_at, AreWithin}
use Rattle.cdcl_trail.specs.Clauses.{clause_in, clause_number}
use Rattle.cdcl_trail.specs.declared.arena.Span.{Span}
use Rattle.cdcl_trail.proofs.ClausesLaws.{by_number}

by_item : (xs : List (Option (List (Signed ℕ)))) (n : ℕ) → n ≢ 0 → clause_number xs n ≡ clause_in (slice_get xs (n - 1))
by_item xs zero h = absurd (h refl)
by_item xs (suc n) h =
    let s : n ≡ suc n - 1 = omega arith in
    ap (λ i. clause_in (slice_get xs i)) s

pub number_set : (xs : List (Option (List (Signed ℕ)))) (n : ℕ) (o : Option (List (Signed ℕ))) → n ≢ 0 → n ≤ length xs → clause_number (set xs (n - 1) o) n ≡ o
number_set xs n o h low = by_item (set xs (n - 1) o) n h ∙ ap clause_in (slice_get_set xs (n - 1) o (omega (arith, h, low)))

pub number_set_other : (xs : List (Option (List (Signed ℕ)))) (n k : ℕ) (o : Option (List (Signed ℕ))) → n ≢ 0 → k ≢ n → clause_number (set xs (n - 1) o) k ≡ clause_number xs k
number_set_other xs n zero o h d = refl
number_set_other xs n (suc k) o h d = ap clause_in (slice_get_set_other xs (n - 1) k o (λ e. d (omega (arith, e, h))))

-- a number more, of no clause
pub number_push_none : (xs : List (Option (List (Signed ℕ)))) (k : ℕ) → clause_number (xs ++ None ∷ []) k ≡ clause_number xs k
number_push_none xs zero = refl
number_push_none [] (suc zero) = refl
number_push_none [] (suc (suc k)) = refl
number_push_none (o ∷ os) (suc zero) = refl
number_push_none (o ∷ os) (suc (suc k)) = number_push_none os (suc k)

-- the clause of a span
pub at_number : (literals : List (Signed ℕ)) (spans : List Span) (n : ℕ) (d : Span) → n ≢ 0 → n ≤ length spans → clause_number (clauses_at literals spans) n ≡ clause_at literals (get_or spans (n - 1) d)
at_number literals spans n d h low = sym (by_number (clauses_at literals spans) n h) ∙ get_or-map (clause_at literals) spans (n - 1) d None (omega (arith, h, low))

pub clause_none : (literals : List (Signed ℕ)) (s : Span) → s.end < s.start → clause_at literals s ≡ None
clause_none literals s h = rw (lt-ltb s.end s.start h) refl

pub clause_some : (literals : List (Signed ℕ)) (s : Span) → s.start ≤ s.end → clause_at literals s ≡ Some (slice_range literals s.start s.end)
clause_some literals s h = rw (le-ltb s.end s.start h) refl

-- a clause was put behind the others
range_more : (xs c : List (Signed ℕ)) (from end : ℕ) → from ≤ end → end ≤ length xs → slice_range (xs ++ c) from end ≡ slice_range xs from end
range_more xs c from end h w =
    let inside : end - from ≤ length (drop from xs) = simp length-drop (omega arith) in
    rw (drop-append-le from xs c (omega arith), take-append-le (end - from) (drop from xs) c inside)

clause_more : (xs c : List (Signed ℕ)) (s : Span) → s.end ≤ length xs → clause_at (xs ++ c) s ≡ clause_at xs s
clause_more xs c s w = by_test (nat_lt s.end s.start) refl
  where
    by_test : (b : Bool) → nat_lt s.end s.start ≡ b → clause_at (xs ++ c) s ≡ clause_at xs s
    by_test true e = rw e refl
    by_test false e =
        let up : s.start ≤ s.end = ltb-false s.end s.start e in
        clause_some (xs ++ c) s up ∙ ap Some (range_more xs c s.start s.end up w) ∙ sym (clause_some xs s up)

pub clauses_more : (xs c : List (Signed ℕ)) (spans : List Span) → AreWithin (length xs) spans → clauses_at (xs ++ c) spans ≡ clauses_at xs spans
clauses_more xs c [] w = refl
clauses_more xs c (s ∷ ss) w = ap₂ (λ a b. a ∷ b) (clause_more xs c s (w 0 s (omega arith))) (clauses_more xs c ss (λ i d h. w (suc i) d (omega (arith, h))))

pub last_clause : (xs c : List (Signed ℕ)) (s : Span) → s.start ≡ length xs → s.end ≡ length xs + length c → clause_at (xs ++ c) s ≡ Some c
last_clause xs c s h e =
    let up : s.start ≤ s.end = omega (arith, h, e) in
    let k : s.end - s.start ≡ length c = omega (arith, h, e) in
    let rest : drop s.start (xs ++ c) ≡ c = ap (λ i. drop i (xs ++ c)) h ∙ drop-append_seam xs c in
    clause_some (xs ++ c) s up ∙ ap Some (ap₂ (λ (i : ℕ) (ys : List (Signed ℕ)). take i ys) k rest ∙ take-length c)
