-- The state of the search as it goes on.
use Rattle.std.proofs.Common.{◌≡◌, ℕ, suc, zero, ◌-◌, ◌^◌, ◌<◌, ◌≤◌, Bool, true, false, cond, ◌⊎◌, inl, inr, List, [], ◌∷◌, ◌++◌, length, take, drop, Option, Some, refl, sym, ap, ◌∙◌, subst, arith}
use Rattle.std.specs.Prelude.{All, AllPairs, Contains, slice_get, nat_le}
use Rattle.std.proofs.lemmas.List.Elements.{All-contains}
use Rattle.std.proofs.lemmas.Option.{same_Some, none-some}
use Rattle.std.proofs.lemmas.Bool.{leb-false, leb-true}
use Rattle.inst_logic.specs.declared.signed.Signed.{Signed}
use Rattle.prop_logic.proofs.ListLaws.{slice_get_push, slice_get_take, take_slice_get, take_of_append, take_of_take, take_whole, All-from_contained, Contains-slice_get, slice_get-Contains, Contains-take}
use Rattle.cdcl_trail.specs.declared.entry.Entry.{Entry}
use Rattle.cdcl_trail.specs.Clauses.{clause_number, AddsClause}
use Rattle.cdcl_trail.specs.Trail.{Trail, IsTrail, IsDecision, entries_up_to}
use Rattle.cdcl_trail.specs.Propagation.{GivesUnit, Propagates}
use Rattle.cdcl_core.specs.declared.log.Log.{Log}
use Rattle.cdcl_core.specs.declared.search.Search.{Search}
use Rattle.cdcl_core.specs.Log.{IsLog}
use Rattle.cdcl_core.specs.Analysis.{AreImplied, IsReady}
use Rattle.cdcl_core.specs.Search.{AreGiven, IsKept, weight}
use Rattle.cdcl_core.proofs.EntryLaws.{pairs_head, pairs_tail}
use Rattle.cdcl_core.proofs.LogLaws.{clause_kept}
use Rattle.cdcl_core.proofs.Measure.{weight_append}

-- the entries up to a level are the first ones
gt_test : (a b : ℕ) (t : Bool) → nat_le a b ≡ t → b < a → nat_le a b ≡ false
gt_test a b true e h = absurd (omega (arith, leb-true a b e))
gt_test a b false e h = e

none_up_to : (es : List Entry) (j : ℕ) → All (λ e. j < e.level) es → entries_up_to es j ≡ []
none_up_to [] j h = refl
none_up_to (e ∷ es) j h =
    let here : nat_le e.level j ≡ false = gt_test e.level j (nat_le e.level j) refl (All-contains (λ x. j < x.level) (e ∷ es) e h (0, omega arith, refl)) in
    ap (λ b. cond b (e ∷ entries_up_to es j) (entries_up_to es j)) here ∙ none_up_to es j (All-from_contained (λ x. j < x.level) es (λ x c. All-contains (λ y. j < y.level) (e ∷ es) x h (suc c.0, omega (arith, c.1), c.2)))

up_to_take_more : (e : Entry) (es : List Entry) (j : ℕ) (t : Bool) → nat_le e.level j ≡ t → AllPairs (λ a b. a.level ≤ b.level) (e ∷ es) → entries_up_to es j ≡ take (length (entries_up_to es j)) es
    → cond t (e ∷ entries_up_to es j) (entries_up_to es j) ≡ take (length (cond t (e ∷ entries_up_to es j) (entries_up_to es j))) (e ∷ es)
up_to_take_more e es j true h rising rest = ap (λ xs. e ∷ xs) rest
up_to_take_more e es j false h rising rest =
    let low : j < e.level = leb-false e.level j h in
    let none = none_up_to es j (All-from_contained (λ x. j < x.level) es (λ x c. let up = pairs_head (λ a b. a.level ≤ b.level) e es x rising c in omega (arith, up, low))) in
    none ∙ sym (ap (λ xs. take (length xs) (e ∷ es)) none)

pub up_to_take : (es : List Entry) (j : ℕ) → AllPairs (λ a b. a.level ≤ b.level) es → entries_up_to es j ≡ take (length (entries_up_to es j)) es
up_to_take [] j rising = refl
up_to_take (e ∷ es) j rising = up_to_take_more e es j (nat_le e.level j) refl rising (up_to_take es j (pairs_tail (λ a b. a.level ≤ b.level) e es rising))

up_to_more : (x : Entry) (xs : List Entry) (e : Entry) (t : Bool) → Contains xs e → Contains (cond t (x ∷ xs) xs) e
up_to_more x xs e true c = (suc c.0, omega (arith, c.1), c.2)
up_to_more x xs e false c = c

le_test : (a b : ℕ) (t : Bool) → nat_le a b ≡ t → a ≤ b → nat_le a b ≡ true
le_test a b true e h = e
le_test a b false e h = absurd (omega (arith, leb-false a b e))

pub up_to_contains : (es : List Entry) (j : ℕ) (e : Entry) → Contains es e → e.level ≤ j → Contains (entries_up_to es j) e
up_to_contains [] j e c h = absurd (omega (arith, c.1))
up_to_contains (x ∷ xs) j e (zero, k, s) h =
    let here : nat_le x.level j ≡ true = le_test x.level j (nat_le x.level j) refl (subst (λ y. y.level ≤ j) (sym s) h) in
    subst (λ b. Contains (cond b (x ∷ entries_up_to xs j) (entries_up_to xs j)) e) (sym here) (0, omega arith, s)
up_to_contains (x ∷ xs) j e (suc k, h, s) low =
    let rest = up_to_contains xs j e (k, omega arith, s) low in
    up_to_more x (entries_up_to xs j) e (nat_le x.level j) rest

of_up_to_more : (x : Entry) (xs : List Entry) (j : ℕ) (e : Entry) (t : Bool) → nat_le x.level j ≡ t → (Contains (entries_up_to xs j) e → Contains xs e × (e.level ≤ j)) → Contains (cond t (x ∷ entries_up_to xs j) (entries_up_to xs j)) e → Contains (x ∷ xs) e × (e.level ≤ j)
of_up_to_more x xs j e true h rest (zero, k, s) = ((0, omega arith, s), subst (λ y. y.level ≤ j) s (leb-true x.level j h))
of_up_to_more x xs j e true h rest (suc k, l, s) = let f = rest (k, omega arith, s) in ((suc f.0.0, omega (arith, f.0.1), f.0.2), f.1)
of_up_to_more x xs j e false h rest c = let f = rest c in ((suc f.0.0, omega (arith, f.0.1), f.0.2), f.1)

pub of_up_to : (es : List Entry) (j : ℕ) (e : Entry) → Contains (entries_up_to es j) e → Contains es e × (e.level ≤ j)
of_up_to [] j e c = absurd (omega (arith, c.1))
of_up_to (x ∷ xs) j e c = of_up_to_more x xs j e (nat_le x.level j) refl (λ k. of_up_to xs j e k) c

-- what is given stays given
pub given_take : (clauses : List (Option (List (Signed ℕ)))) (es : List Entry) (m : ℕ) → AreGiven clauses es → AreGiven clauses (take m es)
given_take clauses es m g = λ k n e at reason.
    let f = slice_get_take es m k e at in
    let h = g k n e f.0 reason in
    (h.0, h.1, subst (λ xs. GivesUnit xs h.0 e.lit) (sym (take_of_take es m k (omega (arith, f.1)))) h.2)

pub given_up_to : (clauses : List (Option (List (Signed ℕ)))) (t : Trail) (j : ℕ) → IsTrail t → AreGiven clauses t.entries → AreGiven clauses (entries_up_to t.entries j)
given_up_to clauses t j v g = subst (AreGiven clauses) (sym (up_to_take t.entries j v.rising)) (given_take clauses t.entries (length (entries_up_to t.entries j)) g)

pub given_push : (clauses : List (Option (List (Signed ℕ)))) (es : List Entry) (d : Entry) → AreGiven clauses es → ((n : ℕ) → d.reason ≡ Some n → (c : List (Signed ℕ)) × (clause_number clauses n ≡ Some c) × GivesUnit es c d.lit) → AreGiven clauses (es ++ d ∷ [])
given_push clauses es d g here = λ k n e at reason.
    elim (slice_get_push es d k e at) [
      | inl old ↦
          let h = g k n e old.0 reason in
          (h.0, h.1, subst (λ xs. GivesUnit xs h.0 e.lit) (sym (take_of_append es (d ∷ []) k (omega (arith, old.1)))) h.2)
      | inr last ↦
          let h = here n (ap (λ x. x.reason) last.1 ∙ reason) in
          let whole : take k (es ++ d ∷ []) ≡ es = take_of_append es (d ∷ []) k (omega (arith, last.0)) ∙ ap (λ i. take i es) last.0 ∙ take_whole es in
          (h.0, h.1, subst (λ xs. GivesUnit xs h.0 e.lit) (sym whole) (subst (λ x. GivesUnit es h.0 x.lit) last.1 h.2))
    ]

pub given_clauses : (old new : List (Option (List (Signed ℕ)))) (clause : List (Signed ℕ)) (n : ℕ) (es : List Entry) → AddsClause old new clause n → AreGiven old es → AreGiven new es
given_clauses old new clause n es a g = λ k m e at reason.
    let h = g k m e at reason in
    (h.0, clause_kept old new clause n m h.0 a h.1, h.2)

-- propagation
kept_at : (old new : List Entry) (k : ℕ) (e : Entry) → take (length old) new ≡ old → slice_get new k ≡ Some e → k < length old → slice_get old k ≡ Some e
kept_at old new k e kept at low = ap (λ xs. slice_get xs k) (sym kept) ∙ take_slice_get new (length old) k e low at

place_cases : (a b : ℕ) → (a < b) ⊎ (b ≤ a)
place_cases zero zero = inr (omega arith)
place_cases zero (suc b) = inl (omega arith)
place_cases (suc a) zero = inr (omega arith)
place_cases (suc a) (suc b) = elim (place_cases a b) [ inl h ↦ inl (omega arith) | inr h ↦ inr (omega arith) ]

pub given_propagated : (clauses : List (Option (List (Signed ℕ)))) (old new : Trail) → Propagates clauses old new → AreGiven clauses old.entries → AreGiven clauses new.entries
given_propagated clauses old new p g = λ k n e at reason.
    elim (place_cases k (length old.entries)) [
      | inl low ↦
          let h = g k n e (kept_at old.entries new.entries k e p.kept at low) reason in
          let same : take k old.entries ≡ take k new.entries = ap (take k) (sym p.kept) ∙ take_of_take new.entries (length old.entries) k (omega arith) in
          (h.0, h.1, subst (λ xs. GivesUnit xs h.0 e.lit) same h.2)
      | inr high ↦
          let h = p.given k e high at in
          let is : h.0 ≡ n = same_Some h.0 n (sym h.2 ∙ reason) in
          (h.1, ap (clause_number clauses) (sym is) ∙ h.3, h.4)
    ]

pub in_new : (old new : List Entry) (e : Entry) → take (length old) new ≡ old → Contains old e → Contains new e
in_new old new e kept c = Contains-take new (length old) e (subst (λ xs. Contains xs e) (sym kept) c)

pub decision_old : (clauses : List (Option (List (Signed ℕ)))) (old new : Trail) (e : Entry) → Propagates clauses old new → Contains new.entries e → IsDecision e → Contains old.entries e
decision_old clauses old new e p c chosen =
    let at = slice_get-Contains new.entries e c in
    elim (place_cases at.0 (length old.entries)) [
      | inl low ↦ Contains-slice_get old.entries at.0 e (kept_at old.entries new.entries at.0 e p.kept at.1 low)
      | inr high ↦ let h = p.given at.0 e high at.1 in absurd (none-some h.0 (sym chosen ∙ h.2))
    ]

take_drop : (n : ℕ) (xs : List Entry) → take n xs ++ drop n xs ≡ xs
take_drop zero [] = refl
take_drop zero (x ∷ xs) = refl
take_drop (suc n) [] = refl
take_drop (suc n) (x ∷ xs) = ap (λ l. x ∷ l) (take_drop n xs)

pub weight_kept : (n : ℕ) (old new : List Entry) → take (length old) new ≡ old → weight n old ≤ weight n new
weight_kept n old new kept =
    let whole = ap (weight n) (take_drop (length old) new) in
    let parts = weight_append n (take (length old) new) (drop (length old) new) in
    omega (arith, whole, parts, ap (weight n) kept)

-- what the analysis needs
pub implied_of : (n : ℕ) (clauses : List (Option (List (Signed ℕ)))) (log : Log) (es : List Entry) → IsLog n clauses log → AreGiven clauses es → AreImplied log es
implied_of n clauses log es v g = λ k m e at reason.
    let h = g k m e at reason in
    (h.0, v.named m h.0 h.1, h.2)

pub ready_of : (s : Search) → IsKept s → IsTrail s.trail.trail → length s.trail.trail.entries ≤ 2 ^ 64 - 1 → IsReady s.log s.trail.trail
ready_of s v t room = record {
  trail = t;
  room = room;
  below = v.log.below;
  steps_below = v.log.good.below;
  implied = implied_of s.trail.trail.atoms s.clauses s.log s.trail.trail.entries v.log v.given;
}
