-- What one visit keeps and says.
use Rattle.std.proofs.Common.{◌≡◌, ◌≢◌, ℕ, suc, zero, ◌+◌, ◌-◌, ◌^◌, ◌<◌, ◌≤◌, Bool, true, false, ◌⊎◌, inl, inr, List, [], ◌∷◌, ◌++◌, length, map, take, set, Option, Some, None, refl, sym, ap, ◌∙◌, subst, arith, length-set}
use Rattle.std.specs.Prelude.{All, Contains, slice_get, ◌==◌}
use Rattle.std.specs.List.{swap_remove, slice_index_or}
use Rattle.std.proofs.lemmas.List.{take-map, take-set, length-take, length-map, map-append}
use Rattle.std.proofs.lemmas.List.Elements.{All-contains, All-weaker, Contains-push}
use Rattle.std.proofs.lemmas.Option.{none-some, same_Some, slice_get_within, slice_get-map}
use Rattle.std.specs.Option.{option_map}
use Rattle.cdcl_trail.specs.declared.visit.Visit.TheVariants.{Kept, Moved, False as FalseClause}
use Rattle.std.proofs.lemmas.Bool.{cases_eq, eqb-true}
use Rattle.inst_logic.specs.declared.signed.Signed.{Signed}
use Rattle.inst_logic.specs.Signed.{complement}
use Rattle.prop_logic.proofs.ListLaws.{Contains-slice_get, Contains-take, take_of_take}
use Rattle.cdcl_trail.specs.Clauses.{clause_number, ClausesBelow}
use Rattle.cdcl_trail.specs.Propagation.{IsFalseIn, IsConflict, Propagates}
use Rattle.cdcl_trail.specs.Running.{at_level, numbers_at, IsRunning, KeepsSettled, Runs, Visits}
use Rattle.cdcl_trail.specs.Trail.{IsTrail, IsUnset, literals_of, value_of, with_implied}
use Rattle.cdcl_trail.specs.Values.{AreValues, entries_of}
use Rattle.cdcl_trail.specs.Watch.{slot_of, list_at, times, pair_at, is_slot, due, pair_of, HasBoth, AreWatched, IsMove}
use Rattle.cdcl_trail.specs.Watching.{IsTrueAt, Watches}
use Rattle.cdcl_trail.specs.declared.entry.Entry.{Entry}
use Rattle.cdcl_trail.specs.declared.values.Values.{Values}
use Rattle.cdcl_trail.specs.declared.watch.WatchedPair.{WatchedPair}
use Rattle.cdcl_trail.specs.declared.watch.Watch.{Watch}
use Rattle.cdcl_trail.proofs.PropagationLaws.{nothing_added, one_added, more_added}
use Rattle.cdcl_trail.proofs.ScanLaws.{same_lit, none_value, true_value, false_value}
use Rattle.cdcl_trail.proofs.TrailLaws.{trail_of, same_trail, implied}
use Rattle.cdcl_trail.proofs.WatchLaws.{not_true, times_removed, one_here, pair_at_set, pair_at_other, pair_within, blocker_put, numbers_put}

-- a literal is known by its slot
pub slot_injective : (a b : Signed ℕ) → slot_of a ≡ slot_of b → a ≡ b
slot_injective a b e = by_signs a.positive b.positive refl refl
  where
    by_signs : (p q : Bool) → a.positive ≡ p → b.positive ≡ q → a ≡ b
    by_signs true true s t =
        let x : slot_of a ≡ a.atom + a.atom + 1 = rw s refl in
        let y : slot_of b ≡ b.atom + b.atom + 1 = rw t refl in
        same_lit a b (omega (arith, e, x, y)) (s ∙ sym t)
    by_signs true false s t =
        let x : slot_of a ≡ a.atom + a.atom + 1 = rw s refl in
        let y : slot_of b ≡ b.atom + b.atom + 0 = rw t refl in
        absurd (omega (arith, e, x, y))
    by_signs false true s t =
        let x : slot_of a ≡ a.atom + a.atom + 0 = rw s refl in
        let y : slot_of b ≡ b.atom + b.atom + 1 = rw t refl in
        absurd (omega (arith, e, x, y))
    by_signs false false s t =
        let x : slot_of a ≡ a.atom + a.atom + 0 = rw s refl in
        let y : slot_of b ≡ b.atom + b.atom + 0 = rw t refl in
        same_lit a b (omega (arith, e, x, y)) (s ∙ sym t)

pub slot_below : (l : Signed ℕ) (n : ℕ) → l.atom < n → slot_of l < n + n
slot_below l n h = by_sign l.positive refl
  where
    by_sign : (p : Bool) → l.positive ≡ p → slot_of l < n + n
    by_sign true s =
        let x : slot_of l ≡ l.atom + l.atom + 1 = rw s refl in
        omega (arith, x, h)
    by_sign false s =
        let x : slot_of l ≡ l.atom + l.atom + 0 = rw s refl in
        omega (arith, x, h)

pub in_list : (xs : List Watch) (i : ℕ) (w : Watch) → slice_get xs i ≡ Some w → 0 < times w.number xs
in_list xs i w at = omega (arith, times_removed w.number xs i w at, one_here w.number w.number refl)

pub due_some : (o : Option WatchedPair) (k : ℕ) → 0 < due o k → (p : WatchedPair) × (o ≡ Some p) × (is_slot p k ≡ true)
due_some None k h = absurd (omega (arith, h))
due_some (Some p) k h = (p, refl, by_test (is_slot p k) refl)
  where
    by_test : (b : Bool) → is_slot p k ≡ b → is_slot p k ≡ true
    by_test true e = e
    by_test false e =
        let z : due (Some p) k ≡ 0 = rw e refl in
        absurd (omega (arith, z, h))

-- a clause that stands in a list watches its literal
pub watch_pair : (clauses : List (Option (List (Signed ℕ)))) (lists : List (List Watch)) (pairs : List (Option WatchedPair)) (l : Signed ℕ) (i : ℕ) (w : Watch) → AreWatched clauses lists pairs → slice_get (list_at lists (slot_of l)) i ≡ Some w
    → (p : WatchedPair) × (pair_at pairs w.number ≡ Some p) × Watches p l
watch_pair clauses lists pairs l i w h at =
    let some = due_some (pair_at pairs w.number) (slot_of l) (subst (λ n. 0 < n) (h.counted (slot_of l) w.number) (in_list (list_at lists (slot_of l)) i w at)) in
    (some.0, some.1, of_slot some.0 (slot_of some.0.first == slot_of l) refl some.2)
  where
    of_slot : (p : WatchedPair) (b : Bool) → (slot_of p.first == slot_of l) ≡ b → is_slot p (slot_of l) ≡ true → Watches p l
    of_slot p true e t = inl (slot_injective p.first l (eqb-true (slot_of p.first) (slot_of l) e))
    of_slot p false e t =
        let second : (slot_of p.second == slot_of l) ≡ true = rw e at t in
        inr (slot_injective p.second l (eqb-true (slot_of p.second) (slot_of l) second))

-- a literal that is neither true nor false has no value
pub neither : (es : List Entry) (l : Signed ℕ) → (Contains (literals_of es) l → ⊥) → (IsFalseIn es l → ⊥) → IsUnset es l.atom
neither es l a b = by_value (value_of es l) refl
  where
    by_value : (o : Option Bool) → value_of es l ≡ o → IsUnset es l.atom
    by_value None e = none_value es l e
    by_value (Some true) e = absurd (a (true_value es l e))
    by_value (Some false) e = absurd (b (false_value es l e))

pub runs_on : (clauses : List (Option (List (Signed ℕ)))) (level : ℕ) (v v' v'' : Values) (p p' p'' : List (Option WatchedPair)) → Runs clauses level v p v' p' → Runs clauses level v' p' v'' p'' → Runs clauses level v p v'' p''
runs_on clauses level v v' v'' p p' p'' a b = record {
  added = more_added clauses (at_level level v) (at_level level v') (at_level level v'') a.added b.added;
  kept = λ part h within settled. b.kept part h (λ l c. more (entries_of v) (entries_of v') l a.added.kept (within l c)) (a.kept part h within settled);
  loose = λ n e. a.loose n (b.loose n e);
  room = b.room ∙ a.room;
}
  where
    more : (es more_es : List Entry) (l : Signed ℕ) → take (length es) more_es ≡ es → Contains (literals_of es) l → Contains (literals_of more_es) l
    more es more_es l e c =
        Contains-take (literals_of more_es) (length es) l (subst (λ xs. Contains xs l) (sym (take-map (λ (x : Entry). x.lit) (length es) more_es ∙ ap literals_of e)) c)

pub runs_none : (clauses : List (Option (List (Signed ℕ)))) (level : ℕ) (v : Values) (p : List (Option WatchedPair)) → Runs clauses level v p v p
runs_none clauses level v p = record {
  added = nothing_added clauses (at_level level v);
  kept = λ part h within settled. settled;
  loose = λ n e. e;
  room = refl;
}

-- the clause watches a literal that is not false in place of one that is
pub moved_settled : (clauses : List (Option (List (Signed ℕ)))) (entries : List Entry) (pairs : List (Option WatchedPair)) (l o next : Signed ℕ) (n : ℕ) (p : WatchedPair)
    → pair_at pairs n ≡ Some p → HasBoth p l o → (IsFalseIn entries next → ⊥) → KeepsSettled clauses entries pairs (set pairs n (Some (pair_of o next)))
moved_settled clauses entries pairs l o next n p at both unlike part h within settled m q g here watches falsified =
    elim (cases_eq m n) [
      | inl same ↦
          let is : q ≡ pair_of o next = same_Some q (pair_of o next) (sym here ∙ ap (pair_at (set pairs n (Some (pair_of o next)))) same ∙ pair_at_set pairs n (Some (pair_of o next)) (pair_within pairs n p at)) in
          of_pair same (subst (λ x. Watches x g) is watches)
      | inr other ↦ settled m q g (sym (pair_at_other pairs n m (Some (pair_of o next)) other) ∙ here) watches falsified
    ]
  where
    has_o : HasBoth p l o → Watches p o
    has_o (inl b) = inr b.1
    has_o (inr b) = inl b.1

    of_pair : m ≡ n → Watches (pair_of o next) g → IsTrueAt clauses part m
    of_pair same (inl e) = settled m p g (ap (pair_at pairs) same ∙ at) (subst (Watches p) e (has_o both)) falsified
    of_pair same (inr e) =
        absurd (unlike (subst (λ x. IsFalseIn entries x) (sym e) (within (complement g) (Contains-take (literals_of part) h (complement g) falsified))))

-- numbers in a list from which one watch was taken
pub numbers_removed : (xs : List Watch) (i : ℕ) (w : Watch) → slice_get xs i ≡ Some w
    → (take i (map (λ x. x.number) (swap_remove xs i w)) ≡ take i (map (λ x. x.number) xs)) × (length (map (λ (x : Watch). x.number) (swap_remove xs i w)) + 1 ≡ length (map (λ (x : Watch). x.number) xs))
numbers_removed xs i w at =
    let inside = slice_get_within xs i w at in
    let f : Watch → ℕ = λ x. x.number in
    let last = slice_index_or xs (length xs - 1) w in
    let ys = set xs i last in
    let size : length ys ≡ length xs = length-set xs i last in
    let front : take i (take (length xs - 1) ys) ≡ take i xs = take_of_take ys (length xs - 1) i (omega (arith, inside)) ∙ take-set xs i last in
    let short : length (swap_remove xs i w) + 1 ≡ length xs = omega (arith, inside, size, length-take (length xs - 1) ys) in
    (take-map f i (swap_remove xs i w) ∙ ap (map f) front ∙ sym (take-map f i xs), omega (arith, short, length-map (swap_remove xs i w) f, length-map xs f))

-- the clause of a pair has both literals
pub of_pair : (clauses : List (Option (List (Signed ℕ)))) (lists : List (List Watch)) (pairs : List (Option WatchedPair)) (n : ℕ) (p : WatchedPair) (l o : Signed ℕ) (c : List (Signed ℕ)) → AreWatched clauses lists pairs → pair_at pairs n ≡ Some p → HasBoth p l o
    → clause_number clauses n ≡ Some c → Contains c l × Contains c o × (slot_of l ≢ slot_of o)
of_pair clauses lists pairs n p l o c h at both here =
    let x = h.of_clauses n p at in
    let same : x.clause ≡ c = same_Some x.clause c (sym x.here ∙ here) in
    by_order (subst (λ d. Contains d p.first) same x.first) (subst (λ d. Contains d p.second) same x.second) x.apart both
  where
    by_order : Contains c p.first → Contains c p.second → slot_of p.first ≢ slot_of p.second → HasBoth p l o → Contains c l × Contains c o × (slot_of l ≢ slot_of o)
    by_order a b apart (inl e) = (subst (Contains c) e.0 a, subst (Contains c) e.1 b, λ s. apart (ap slot_of e.0 ∙ s ∙ ap slot_of (sym e.1)))
    by_order a b apart (inr e) = (subst (Contains c) e.0 b, subst (Contains c) e.1 a, λ s. apart (ap slot_of e.1 ∙ sym s ∙ ap slot_of (sym e.0)))

-- an atom of a clause is an atom
pub atom_below : (clauses : List (Option (List (Signed ℕ)))) (n atoms : ℕ) (c : List (Signed ℕ)) (l : Signed ℕ) → ClausesBelow atoms clauses → clause_number clauses n ≡ Some c → Contains c l → l.atom < atoms
atom_below clauses n atoms c l below at has = All-contains (λ x. x.atom < atoms) c l (below n c at) has

-- packed literals fit
pub lists_small : (clauses : List (Option (List (Signed ℕ)))) (level : ℕ) (v : Values) (lists : List (List Watch)) (pairs : List (Option WatchedPair)) → IsRunning clauses level v lists pairs → length lists < 2 ^ 32
lists_small clauses level v lists pairs r = let small = r.values.small in omega (arith, r.slots, small)

-- the atom of the other literal of a pair
pub other_below : (clauses : List (Option (List (Signed ℕ)))) (level : ℕ) (v : Values) (lists : List (List Watch)) (pairs : List (Option WatchedPair)) (n : ℕ) (p : WatchedPair) (l o : Signed ℕ) → IsRunning clauses level v lists pairs → pair_at pairs n ≡ Some p → HasBoth p l o → o.atom < length v.entries.items
other_below clauses level v lists pairs n p l o r at both =
    let x = r.watched.of_clauses n p at in
    let c = x.clause in
    atom_below clauses n (length v.entries.items) c o r.below x.here (of_pair clauses lists pairs n p l o c r.watched at both x.here).1

pub other_slot : (clauses : List (Option (List (Signed ℕ)))) (level : ℕ) (v : Values) (lists : List (List Watch)) (pairs : List (Option WatchedPair)) (n : ℕ) (p : WatchedPair) (l o : Signed ℕ) → IsRunning clauses level v lists pairs → pair_at pairs n ≡ Some p → HasBoth p l o → slot_of o < length lists
other_slot clauses level v lists pairs n p l o r at both =
    subst (λ m. slot_of o < m) (sym r.slots) (slot_below o (length v.entries.items) (other_below clauses level v lists pairs n p l o r at both))

conflict : (clauses : List (Option (List (Signed ℕ)))) (es : List Entry) (n : ℕ) (o : Signed ℕ) (c : List (Signed ℕ)) → clause_number clauses n ≡ Some c → All (λ m. IsFalseIn es m ⊎ (m ≡ o)) c → IsFalseIn es o → IsConflict clauses es n
conflict clauses es n o c at all f = (c, at, All-weaker (λ m. IsFalseIn es m ⊎ (m ≡ o)) (IsFalseIn es) (λ m h. either m h) c all)
  where
    either : (m : Signed ℕ) → IsFalseIn es m ⊎ (m ≡ o) → IsFalseIn es m
    either m (inl h) = h
    either m (inr e) = subst (IsFalseIn es) (sym e) f

pub visits_false : (clauses : List (Option (List (Signed ℕ)))) (level : ℕ) (l : Signed ℕ) (place : ℕ) (v : Values) (lists : List (List Watch)) (pairs : List (Option WatchedPair)) (n : ℕ) (o : Signed ℕ) (c : List (Signed ℕ)) → IsRunning clauses level v lists pairs
    → clause_number clauses n ≡ Some c → All (λ m. IsFalseIn (entries_of v) m ⊎ (m ≡ o)) c → IsFalseIn (entries_of v) o → Visits clauses level l place v lists pairs v lists pairs (FalseClause n)
visits_false clauses level l place v lists pairs n o c r at all f = record {
  running = r;
  runs = runs_none clauses level v pairs;
  visited = conflict clauses (entries_of v) n o c at all f;
}

pub number_at : (xs : List Watch) (i : ℕ) (w : Watch) → slice_get xs i ≡ Some w → slice_get (map (λ x. x.number) xs) i ≡ Some w.number
number_at xs i w at = slice_get-map (λ (x : Watch). x.number) xs i ∙ ap (option_map (λ (x : Watch). x.number)) at

-- a clause with a true literal stays where it is
pub visits_true : (clauses : List (Option (List (Signed ℕ)))) (level : ℕ) (l : Signed ℕ) (place : ℕ) (v : Values) (lists : List (List Watch)) (pairs : List (Option WatchedPair)) (w : Watch) (o : Signed ℕ) → IsRunning clauses level v lists pairs
    → slice_get (list_at lists (slot_of l)) place ≡ Some w → ((c : List (Signed ℕ)) → clause_number clauses w.number ≡ Some c → Contains c o) → Contains (literals_of (entries_of v)) o
    → Visits clauses level l place v lists pairs v lists pairs Kept
visits_true clauses level l place v lists pairs w o r at has true_now = record {
  running = r;
  runs = runs_none clauses level v pairs;
  visited = (refl, λ n e c here. let same : n ≡ w.number = same_Some n w.number (sym e ∙ number_at (list_at lists (slot_of l)) place w at) in (o, has c (ap (clause_number clauses) (sym same) ∙ here), true_now));
}

-- the last open literal of the clause becomes true
pub visits_implied : (clauses : List (Option (List (Signed ℕ)))) (level : ℕ) (l : Signed ℕ) (place : ℕ) (v v' : Values) (lists : List (List Watch)) (pairs : List (Option WatchedPair)) (w : Watch) (o : Signed ℕ) (c : List (Signed ℕ)) → IsRunning clauses level v lists pairs
    → slice_get (list_at lists (slot_of l)) place ≡ Some w → clause_number clauses w.number ≡ Some c → Contains c o → All (λ m. IsFalseIn (entries_of v) m ⊎ (m ≡ o)) c → o.atom < length v.entries.items → IsUnset (entries_of v) o.atom
    → AreValues v' → entries_of v' ≡ entries_of v ++ (record { lit = o; level = level; reason = Some w.number }) ∷ [] → length v'.entries.items ≡ length v.entries.items
    → Visits clauses level l place v lists pairs v' lists pairs Kept
visits_implied clauses level l place v v' lists pairs w o c r at here has all low unset values entries size =
    let t = at_level level v in
    let next : IsTrail (at_level level v') = same_trail (with_implied t o w.number) (length v'.entries.items) (entries_of v') (implied t o w.number r.trail low unset) size entries in
    let is : at_level level v' ≡ with_implied t o w.number = ap (λ n. trail_of n level (entries_of v') false) size ∙ ap (λ es. trail_of (length v.entries.items) level es false) entries in
    let true_now : Contains (literals_of (entries_of v')) o = subst (λ es. Contains (literals_of es) o) (sym entries) (last_true (entries_of v) o) in
    record {
      running = record {
        values = values;
        trail = next;
        watched = r.watched;
        slots = r.slots ∙ ap (λ n. n + n) (sym size);
        below = subst (λ n. ClausesBelow n clauses) (sym size) r.below;
      };
      runs = record {
        added = subst (Propagates clauses t) (sym is) (one_added clauses t o w.number c here (record { here = has; others = all }));
        kept = λ part h within settled. settled;
        loose = λ n e. e;
        room = refl;
      };
      visited = (
        refl,
        λ n e d h. let same : n ≡ w.number = same_Some n w.number (sym e ∙ number_at (list_at lists (slot_of l)) place w at) in
            (o, subst (λ x. Contains x o) (same_Some c d (sym here ∙ ap (clause_number clauses) (sym same) ∙ h)) has, true_now),
      );
    }
  where
    last_true : (es : List Entry) (o : Signed ℕ) → Contains (literals_of (es ++ (record { lit = o; level = level; reason = Some w.number }) ∷ [])) o
    last_true es o = subst (λ xs. Contains xs o) (sym (map-append (λ (x : Entry). x.lit) es ((record { lit = o; level = level; reason = Some w.number }) ∷ []))) (Contains-push (literals_of es) o)

-- another literal is watched in place of this one
pub visits_moved : (clauses : List (Option (List (Signed ℕ)))) (level : ℕ) (l : Signed ℕ) (place : ℕ) (v : Values) (lists lists' : List (List Watch)) (pairs pairs' : List (Option WatchedPair)) (w : Watch) (p : WatchedPair) (o next : Signed ℕ) → IsRunning clauses level v lists pairs
    → slice_get (list_at lists (slot_of l)) place ≡ Some w → pair_at pairs w.number ≡ Some p → HasBoth p l o → (IsFalseIn (entries_of v) next → ⊥)
    → AreWatched clauses lists' pairs' → list_at lists' (slot_of l) ≡ swap_remove (list_at lists (slot_of l)) place w → length lists' ≡ length lists → pairs' ≡ set pairs w.number (Some (pair_of o next))
    → Visits clauses level l place v lists pairs v lists' pairs' Moved
visits_moved clauses level l place v lists lists' pairs pairs' w p o next r at pair both unlike watched removed size set_pair =
    let less = numbers_removed (list_at lists (slot_of l)) place w at in
    let numbers : numbers_at lists' (slot_of l) ≡ map (λ x. x.number) (swap_remove (list_at lists (slot_of l)) place w) = ap (map (λ (x : Watch). x.number)) removed in
    record {
      running = record { values = r.values; trail = r.trail; watched = watched; slots = size ∙ r.slots; below = r.below };
      runs = record {
        added = nothing_added clauses (at_level level v);
        kept = subst (KeepsSettled clauses (entries_of v) pairs) (sym set_pair) (moved_settled clauses (entries_of v) pairs l o next w.number p pair both unlike);
        loose = λ n e. still_none n (ap (λ ps. pair_at ps n) (sym set_pair) ∙ e);
        room = ap length set_pair ∙ length-set pairs w.number (Some (pair_of o next));
      };
      visited = (ap (take place) numbers ∙ less.0, ap (λ ns. length ns + 1) numbers ∙ less.1);
    }
  where
    still_none : (n : ℕ) → pair_at (set pairs w.number (Some (pair_of o next))) n ≡ None → pair_at pairs n ≡ None
    still_none n e = elim (cases_eq n w.number) [
      | inl same ↦ absurd (none-some (pair_of o next) (sym e ∙ ap (pair_at (set pairs w.number (Some (pair_of o next)))) same ∙ pair_at_set pairs w.number (Some (pair_of o next)) (pair_within pairs w.number p pair)))
      | inr other ↦ sym (pair_at_other pairs w.number n (Some (pair_of o next)) other) ∙ e
    ]

-- the move that a visit makes
pub move_of : (clauses : List (Option (List (Signed ℕ)))) (level : ℕ) (l : Signed ℕ) (place : ℕ) (v : Values) (lists : List (List Watch)) (pairs : List (Option WatchedPair)) (w : Watch) (p : WatchedPair) (o next : Signed ℕ) (c : List (Signed ℕ)) → IsRunning clauses level v lists pairs
    → slice_get (list_at lists (slot_of l)) place ≡ Some w → pair_at pairs w.number ≡ Some p → HasBoth p l o → clause_number clauses w.number ≡ Some c → Contains c next → next ≢ o → IsFalseIn (entries_of v) l → (IsFalseIn (entries_of v) next → ⊥)
    → IsMove clauses lists pairs l o next place w p c
move_of clauses level l place v lists pairs w p o next c r at pair both here has other f unlike =
    let x = of_pair clauses lists pairs w.number p l o c r.watched pair both here in
    let atoms = length v.entries.items in
    record {
      watched = r.watched;
      in_f = subst (λ n. slot_of l < n) (sym r.slots) (slot_below l atoms (atom_below clauses w.number atoms c l r.below here x.0));
      in_next = subst (λ n. slot_of next < n) (sym r.slots) (slot_below next atoms (atom_below clauses w.number atoms c next r.below here has));
      at = at;
      pair = pair;
      both = both;
      here = here;
      has_o = x.1;
      has_next = has;
      not_f = λ e. unlike (subst (IsFalseIn (entries_of v)) (sym (slot_injective next l e)) f);
      not_o = λ e. other (slot_injective next o e);
      apart = x.2;
    }

-- a true literal of the clause becomes its blocker
pub visits_blocked : (clauses : List (Option (List (Signed ℕ)))) (level : ℕ) (l : Signed ℕ) (place : ℕ) (v : Values) (lists lists' : List (List Watch)) (pairs : List (Option WatchedPair)) (w w' : Watch) (o : Signed ℕ) → IsRunning clauses level v lists pairs
    → slot_of l < length lists → slice_get (list_at lists (slot_of l)) place ≡ Some w → w'.number ≡ w.number → w'.blocker ≡ o → w'.binary ≡ false → ((c : List (Signed ℕ)) → clause_number clauses w.number ≡ Some c → Contains c o)
    → Contains (literals_of (entries_of v)) o → lists' ≡ set lists (slot_of l) (set (list_at lists (slot_of l)) place w') → Visits clauses level l place v lists pairs v lists' pairs Kept
visits_blocked clauses level l place v lists lists' pairs w w' o r inside at same blocker long has true_now new =
    let j = slot_of l in
    let xs = set (list_at lists j) place w' in
    let watched : AreWatched clauses (set lists j xs) pairs = blocker_put clauses lists pairs j place w w' r.watched inside at same
    (λ c here. record { here = subst (Contains c) (sym blocker) (has c (ap (clause_number clauses) (sym same) ∙ here)); only = λ e. not_true (sym long ∙ e) }) in
    record {
      running = record {
        values = r.values;
        trail = r.trail;
        watched = subst (λ ls. AreWatched clauses ls pairs) (sym new) watched;
        slots = ap length new ∙ length-set lists j xs ∙ r.slots;
        below = r.below;
      };
      runs = runs_none clauses level v pairs;
      visited = (
        ap (λ ls. numbers_at ls j) new ∙ numbers_put lists j place w w' inside at same,
        λ n e c here. let one : n ≡ w.number = same_Some n w.number (sym e ∙ number_at (list_at lists j) place w at) in (o, has c (ap (clause_number clauses) (sym one) ∙ here), true_now),
      );
    }

-- a slot of a list that is not empty
pub slot_within : (lists : List (List Watch)) (j place : ℕ) (w : Watch) → slice_get (list_at lists j) place ≡ Some w → j < length lists
slot_within lists j place w at = elim (within j) [ inl h ↦ h | inr h ↦ absurd (none-some w (sym (ap (λ xs. slice_get xs place) (past lists j h)) ∙ at)) ]
  where
    within : (k : ℕ) → (k < length lists) ⊎ (length lists ≤ k)
    within k = grind arith

    past : (ls : List (List Watch)) (k : ℕ) → length ls ≤ k → list_at ls k ≡ []
    past [] k h = refl
    past (x ∷ xs) zero h = absurd (omega (arith, h))
    past (x ∷ xs) (suc k) h = past xs k (omega (arith, h))

-- the pair at the watch's number watches the literal
pub watches_of : (clauses : List (Option (List (Signed ℕ)))) (lists : List (List Watch)) (pairs : List (Option WatchedPair)) (l : Signed ℕ) (i n : ℕ) (w : Watch) (p : WatchedPair) → AreWatched clauses lists pairs → slice_get (list_at lists (slot_of l)) i ≡ Some w
    → w.number ≡ n → pair_at pairs n ≡ Some p → Watches p l
watches_of clauses lists pairs l i n w p h at same here =
    let x = watch_pair clauses lists pairs l i w h at in
    subst (λ q. Watches q l) (same_Some x.0 p (sym x.1 ∙ ap (pair_at pairs) same ∙ here)) x.2

-- the blocker is a literal of the clause, and its atom is one
pub blocker_below : (clauses : List (Option (List (Signed ℕ)))) (level : ℕ) (v : Values) (lists : List (List Watch)) (pairs : List (Option WatchedPair)) (l : Signed ℕ) (i : ℕ) (w : Watch) → IsRunning clauses level v lists pairs → slice_get (list_at lists (slot_of l)) i ≡ Some w
    → w.blocker.atom < length v.entries.items
blocker_below clauses level v lists pairs l i w r at =
    let x = watch_pair clauses lists pairs l i w r.watched at in
    let y = r.watched.of_clauses w.number x.0 x.1 in
    atom_below clauses w.number (length v.entries.items) y.clause w.blocker r.below y.here (r.watched.blockers (slot_of l) w y.clause (Contains-slice_get (list_at lists (slot_of l)) i w at) y.here).here

-- the clause of a watch that says that it has two literals
pub binary_clause : (clauses : List (Option (List (Signed ℕ)))) (level : ℕ) (v : Values) (lists : List (List Watch)) (pairs : List (Option WatchedPair)) (l : Signed ℕ) (i : ℕ) (w : Watch) → IsRunning clauses level v lists pairs → slice_get (list_at lists (slot_of l)) i ≡ Some w
    → w.binary ≡ true → IsFalseIn (entries_of v) l → (c : List (Signed ℕ)) × (clause_number clauses w.number ≡ Some c) × Contains c w.blocker × All (λ m. IsFalseIn (entries_of v) m ⊎ (m ≡ w.blocker)) c
binary_clause clauses level v lists pairs l i w r at is f =
    let x = watch_pair clauses lists pairs l i w r.watched at in
    let y = r.watched.of_clauses w.number x.0 x.1 in
    let b = r.watched.blockers (slot_of l) w y.clause (Contains-slice_get (list_at lists (slot_of l)) i w at) y.here in
    (y.clause, y.here, b.here, All-weaker (λ m. (slot_of m ≡ slot_of l) ⊎ (m ≡ w.blocker)) (λ m. IsFalseIn (entries_of v) m ⊎ (m ≡ w.blocker)) (λ m h. either m h) y.clause (b.only is))
  where
    either : (m : Signed ℕ) → (slot_of m ≡ slot_of l) ⊎ (m ≡ w.blocker) → IsFalseIn (entries_of v) m ⊎ (m ≡ w.blocker)
    either m (inl e) = inl (subst (IsFalseIn (entries_of v)) (sym (slot_injective m l e)) f)
    either m (inr e) = inr e
