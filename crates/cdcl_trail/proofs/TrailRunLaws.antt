-- How the visits of the trail go on.
use Rattle.std.proofs.Common.{◌≡◌, ℕ, ◌+◌, ◌<◌, ◌≤◌, Bool, true, false, inl, inr, List, [], ◌∷◌, length, map, take, get_or, Option, Some, refl, sym, ap, ◌∙◌, subst, arith}
use Rattle.std.specs.Prelude.{All, Contains, slice_get, ◌==◌}
use Rattle.std.proofs.lemmas.List.{take-map, length-map, take_more}
use Rattle.std.proofs.lemmas.List.Sums.{sum_by-append}
use Rattle.std.proofs.lemmas.List.Elements.{All-map, Contains-push_cases}
use Rattle.std.proofs.lemmas.Option.{slice_get_within, get_or_from_slice_get}
use Rattle.std.proofs.lemmas.Bool.{eqb-true}
use Rattle.inst_logic.specs.declared.signed.Signed.{Signed}
use Rattle.inst_logic.specs.Signed.{complement}
use Rattle.inst_logic.proofs.Items.{contains_here, contains_there}
use Rattle.prop_logic.proofs.ListLaws.{take_of_take, slice_get_take, All-slice_get}
use Rattle.prop_logic.proofs.SearchLaws.{complement_twice}
use Rattle.cdcl_trail.specs.Running.{at_level, numbers_at, IsRunning, Runs, IsTrailRun}
use Rattle.cdcl_trail.specs.Trail.{literals_of}
use Rattle.cdcl_trail.specs.Values.{AreValues, entries_of}
use Rattle.cdcl_trail.specs.Watch.{slot_of, list_at, times, pair_at, due, AreWatched}
use Rattle.cdcl_trail.specs.Watching.{IsTrueAt, Watches, IsSettled}
use Rattle.cdcl_trail.specs.declared.entry.Entry.{Entry}
use Rattle.cdcl_trail.specs.declared.values.Values.{Values}
use Rattle.cdcl_trail.specs.declared.watch.WatchedPair.{WatchedPair}
use Rattle.cdcl_trail.specs.declared.watch.Watch.{Watch}
use Rattle.cdcl_trail.proofs.ListRunLaws.{still_true}
use Rattle.cdcl_trail.proofs.PropagationLaws.{longer}
use Rattle.cdcl_trail.proofs.VisitLaws.{runs_on, slot_below}
use Rattle.cdcl_trail.proofs.WatchLaws.{due_first, due_second, one_if}

-- a clause that is counted stands in the list
pub counted_in : (n : ℕ) (xs : List Watch) → 0 < times n xs → Contains (map (λ w. w.number) xs) n
counted_in n [] h = absurd (omega (arith, h))
counted_in n (x ∷ xs) h = by_test (x.number == n) refl (counted_in n xs)
  where
    more : times n (x ∷ xs) ≡ one_if (x.number == n) + times n xs
    more = omega (arith, sum_by-append (λ y. one_if (y.number == n)) (x ∷ []) xs)

    by_test : (b : Bool) → (x.number == n) ≡ b → (0 < times n xs → Contains (map (λ w. w.number) xs) n) → Contains (map (λ w. w.number) (x ∷ xs)) n
    by_test true e rest = subst (Contains (map (λ w. w.number) (x ∷ xs))) (eqb-true x.number n e) (contains_here x.number (map (λ w. w.number) xs))
    by_test false e rest =
        let none : one_if (x.number == n) ≡ 0 = rw e refl in
        contains_there x.number n (map (λ w. w.number) xs) (rest (omega (arith, h, more, none)))

-- a clause that watches a literal stands in its list
pub watcher_in : (clauses : List (Option (List (Signed ℕ)))) (lists : List (List Watch)) (pairs : List (Option WatchedPair)) (n : ℕ) (p : WatchedPair) (g : Signed ℕ) → AreWatched clauses lists pairs → pair_at pairs n ≡ Some p → Watches p g → Contains (numbers_at lists (slot_of g)) n
watcher_in clauses lists pairs n p g h at watches =
    let one : times n (list_at lists (slot_of g)) ≡ 1 = h.counted (slot_of g) n ∙ ap (λ o. due o (slot_of g)) at ∙ by_side watches in
    counted_in n (list_at lists (slot_of g)) (omega (arith, one))
  where
    by_side : Watches p g → due (Some p) (slot_of g) ≡ 1
    by_side (inl e) = due_first p.first p.second (slot_of g) (ap slot_of e)
    by_side (inr e) = due_second p.first p.second (slot_of g) (ap slot_of e)

-- more entries
pub settled_more : (clauses : List (Option (List (Signed ℕ)))) (pairs : List (Option WatchedPair)) (es more : List Entry) (h : ℕ) → take (length es) more ≡ es → h ≤ length es → IsSettled clauses pairs es h → IsSettled clauses pairs more h
settled_more clauses pairs es more h kept low settled n p g at watches falsified =
    let front : take h (literals_of more) ≡ take h (literals_of es) =
    take-map (λ (x : Entry). x.lit) h more ∙ ap (map (λ (x : Entry). x.lit)) (sym (take_of_take more (length es) h low) ∙ ap (take h) kept) ∙ sym (take-map (λ (x : Entry). x.lit) h es) in
    still_true clauses es more n kept (settled n p g at watches (subst (λ xs. Contains xs (complement g)) front falsified))

-- the next literal, after the visits of its list
pub settled_next : (clauses : List (Option (List (Signed ℕ)))) (lists : List (List Watch)) (pairs : List (Option WatchedPair)) (es : List Entry) (h : ℕ) (l x : Signed ℕ) → AreWatched clauses lists pairs → slice_get (literals_of es) h ≡ Some x → l ≡ complement x → IsSettled clauses pairs es h
    → ((n : ℕ) → Contains (numbers_at lists (slot_of l)) n → IsTrueAt clauses es n) → IsSettled clauses pairs es (h + 1)
settled_next clauses lists pairs es h l x watched here is settled seen n p g at watches falsified =
    let inside = slice_get_within (literals_of es) h x here in
    let more = subst (λ xs. Contains xs (complement g)) (take_more (literals_of es) h x inside) falsified in
    let read : get_or (literals_of es) h x ≡ x = get_or_from_slice_get (literals_of es) h x x here in
    elim (Contains-push_cases (take h (literals_of es)) (get_or (literals_of es) h x) (complement g) more) [
      | inl old ↦ settled n p g at watches old
      | inr new ↦
          let same : g ≡ l = sym (complement_twice g) ∙ ap complement (sym new ∙ read) ∙ sym is in
          seen n (watcher_in clauses lists pairs n p l watched at (subst (Watches p) same watches))
    ]

pub trail_run_goes : (clauses : List (Option (List (Signed ℕ)))) (level : ℕ) (head : ℕ) (v v' v'' : Values) (lists' lists'' : List (List Watch)) (pairs pairs' pairs'' : List (Option WatchedPair)) → IsTrailRun clauses level head v pairs v' lists' pairs'
    → IsRunning clauses level v'' lists'' pairs'' → Runs clauses level v' pairs' v'' pairs'' → IsTrailRun clauses level head v pairs v'' lists'' pairs''
trail_run_goes clauses level head v v' v'' lists' lists'' pairs pairs' pairs'' run next step = record {
  running = next;
  runs = runs_on clauses level v v' v'' pairs pairs' pairs'' run.runs step;
  low = omega (arith, run.low, longer clauses (at_level level v') (at_level level v'') step.added);
  settled = settled_more clauses pairs'' (entries_of v') (entries_of v'') head step.added.kept run.low (step.kept (entries_of v') head (λ l c. c) run.settled);
}

pub trail_run_next : (clauses : List (Option (List (Signed ℕ)))) (level : ℕ) (head : ℕ) (v v' v'' : Values) (lists' lists'' : List (List Watch)) (pairs pairs' pairs'' : List (Option WatchedPair)) (l x : Signed ℕ) → IsTrailRun clauses level head v pairs v' lists' pairs'
    → IsRunning clauses level v'' lists'' pairs'' → Runs clauses level v' pairs' v'' pairs'' → slice_get (literals_of (entries_of v')) head ≡ Some x → l ≡ complement x
    → ((n : ℕ) → Contains (numbers_at lists'' (slot_of l)) n → IsTrueAt clauses (entries_of v'') n) → IsTrailRun clauses level (head + 1) v pairs v'' lists'' pairs''
trail_run_next clauses level head v v' v'' lists' lists'' pairs pairs' pairs'' l x run next step here is seen =
    let on = trail_run_goes clauses level head v v' v'' lists' lists'' pairs pairs' pairs'' run next step in
    let inside = slice_get_within (literals_of (entries_of v')) head x here in
    let still : slice_get (literals_of (entries_of v'')) head ≡ Some x = kept_at (entries_of v') (entries_of v'') head x step.added.kept here in
    record {
      running = next;
      runs = on.runs;
      low = omega (arith, inside, length-map (entries_of v') (λ (e : Entry). e.lit), longer clauses (at_level level v') (at_level level v'') step.added);
      settled = settled_next clauses lists'' pairs'' (entries_of v'') head l x next.watched still is on.settled seen;
    }
  where
    kept_at : (es more : List Entry) (k : ℕ) (x : Signed ℕ) → take (length es) more ≡ es → slice_get (literals_of es) k ≡ Some x → slice_get (literals_of more) k ≡ Some x
    kept_at es more k x e at =
        (slice_get_take (literals_of more) (length es) k x (subst (λ xs. slice_get xs k ≡ Some x) (sym (take-map (λ (x : Entry). x.lit) (length es) more ∙ ap literals_of e)) at)).0

-- the literal at a place of the trail
pub literal_here : (v : Values) (h : ℕ) (x : Signed ℕ) → AreValues v → slice_get v.literals.items h ≡ Some x → slice_get (literals_of (entries_of v)) h ≡ Some x
literal_here v h x values at = subst (λ xs. slice_get xs h ≡ Some x) (sym values.literals) at

pub slot_here : (clauses : List (Option (List (Signed ℕ)))) (level : ℕ) (v : Values) (lists : List (List Watch)) (pairs : List (Option WatchedPair)) (h : ℕ) (x l : Signed ℕ) → IsRunning clauses level v lists pairs → slice_get v.literals.items h ≡ Some x → l ≡ complement x → slot_of l < length lists
slot_here clauses level v lists pairs h x l r at is =
    let atoms = length v.entries.items in
    let all : All (λ y. y.atom < atoms) (literals_of (entries_of v)) = All-map (λ (y : Signed ℕ). y.atom < atoms) (λ (e : Entry). e.lit) (entries_of v) r.trail.atoms_below in
    let low : x.atom < atoms = All-slice_get (λ y. y.atom < atoms) (literals_of (entries_of v)) all h x (literal_here v h x r.values at) in
    let same : l.atom ≡ x.atom = ap (λ y. y.atom) is in
    subst (λ n. slot_of l < n) (sym r.slots) (slot_below l atoms (omega (arith, low, same)))
