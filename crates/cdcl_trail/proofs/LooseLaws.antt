-- Looks at loose clauses.
use Rattle.std.proofs.Common.{◌≡◌, ◌≢◌, ℕ, zero, suc, Bool, true, ◌+◌, ◌-◌, ◌<◌, false, ◌⊎◌, inl, inr, List, [], ◌∷◌, ◌++◌, length, take, set, get_or, Option, Some, None, refl, sym, ap, ◌∙◌, subst, arith, length-set}
use Rattle.std.specs.Prelude.{All, Contains, slice_get, is_some, ◌==◌}
use Rattle.std.specs.List.{swap_remove, slice_index_or}
use Rattle.std.proofs.lemmas.List.{get_or-set_same, get_or-set_other, map-append, take-set, length-take}
use Rattle.std.proofs.lemmas.List.Elements.{All-nil, All-cons, All-weaker, Contains-push, Contains-push_cases}
use Rattle.std.proofs.lemmas.Option.{none-some, same_Some, slice_get_within, get_or_from_slice_get}
use Rattle.std.proofs.lemmas.Bool.{cases_eq}
use Rattle.inst_logic.specs.declared.signed.Signed.{Signed}
use Rattle.inst_logic.specs.Signed.{complement}
use Rattle.prop_logic.proofs.ListLaws.{all_more, Contains-slice_get, slice_get-Contains, slice_get_set, slice_get_set_other, Contains-take, take_of_take, take_slice_get}
use Rattle.cdcl_trail.specs.Clauses.{clause_number, ClausesBelow}
use Rattle.cdcl_trail.specs.Loose.{add_to, with_pair, AreLoose, IsLooseRun}
use Rattle.cdcl_trail.specs.Propagation.{IsFalseIn, Propagates}
use Rattle.cdcl_trail.specs.Running.{at_level, IsRunning, Runs}
use Rattle.cdcl_trail.specs.Trail.{IsUnset, literals_of, with_implied}
use Rattle.cdcl_trail.specs.Values.{AreValues, entries_of}
use Rattle.cdcl_trail.specs.Watch.{slot_of, list_at, times, pair_at, due, IsPairOf, IsBlocker, AreWatched}
use Rattle.cdcl_trail.specs.Watching.{IsTrueAt, Watches}
use Rattle.cdcl_trail.specs.declared.entry.Entry.{Entry}
use Rattle.cdcl_trail.specs.declared.values.Values.{Values}
use Rattle.cdcl_trail.specs.declared.watch.WatchedPair.{WatchedPair}
use Rattle.cdcl_trail.specs.declared.watch.Watch.{Watch}
use Rattle.cdcl_trail.proofs.ListRunLaws.{still_true}
use Rattle.cdcl_trail.proofs.PropagationLaws.{nothing_added, one_added}
use Rattle.cdcl_trail.proofs.TrailLaws.{trail_of, same_trail, implied}
use Rattle.cdcl_trail.proofs.VisitLaws.{runs_none, runs_on}
use Rattle.cdcl_trail.proofs.WatchLaws.{contains_removed, times_push, one_here, one_not, one_if, due_first, due_second, due_neither, pair_at_set, pair_at_other}

-- a watch more in one list
added_here : (lists : List (List Watch)) (l : Signed ℕ) (w : Watch) → slot_of l < length lists → list_at (add_to lists l w) (slot_of l) ≡ list_at lists (slot_of l) ++ w ∷ []
added_here lists l w h = get_or-set_same lists (slot_of l) (list_at lists (slot_of l) ++ w ∷ []) [] h

added_other : (lists : List (List Watch)) (l : Signed ℕ) (w : Watch) (k : ℕ) → k ≢ slot_of l → list_at (add_to lists l w) k ≡ list_at lists k
added_other lists l w k h = get_or-set_other lists (slot_of l) k (list_at lists (slot_of l) ++ w ∷ []) [] h

added_times : (lists : List (List Watch)) (l : Signed ℕ) (w : Watch) (k n : ℕ) → slot_of l < length lists → slot_of l ≡ k → times n (list_at (add_to lists l w) k) ≡ times n (list_at lists k) + one_if (w.number == n)
added_times lists l w k n h e = subst (λ j. times n (list_at (add_to lists l w) j) ≡ times n (list_at lists j) + one_if (w.number == n)) e (ap (times n) (added_here lists l w h) ∙ times_push n (list_at lists (slot_of l)) w)

added_in : (lists : List (List Watch)) (l : Signed ℕ) (w x : Watch) (k : ℕ) → slot_of l < length lists → Contains (list_at (add_to lists l w) k) x → Contains (list_at lists k) x ⊎ ((k ≡ slot_of l) × (w ≡ x))
added_in lists l w x k h c = elim (cases_eq k (slot_of l)) [
  | inl e ↦
      elim (Contains-push_cases (list_at lists (slot_of l)) w x (subst (λ xs. Contains xs x) (added_here lists l w h) (subst (λ j. Contains (list_at (add_to lists l w) j) x) e c))) [
        | inl old ↦ inl (subst (λ j. Contains (list_at lists j) x) (sym e) old)
        | inr new ↦ inr (e, new)
      ]
  | inr n ↦ inl (subst (λ xs. Contains xs x) (added_other lists l w k n) c)
]

-- a clause of two literals, seen from the list of one of them
only_first : (p : WatchedPair) (k : ℕ) (c : List (Signed ℕ)) → k ≡ slot_of p.first → All (λ m. (m ≡ p.first) ⊎ (m ≡ p.second)) c → All (λ m. (slot_of m ≡ k) ⊎ (m ≡ p.second)) c
only_first p k c e all = All-weaker (λ m. (m ≡ p.first) ⊎ (m ≡ p.second)) (λ m. (slot_of m ≡ k) ⊎ (m ≡ p.second)) (λ m h. either m h) c all
  where
    either : (m : Signed ℕ) → (m ≡ p.first) ⊎ (m ≡ p.second) → (slot_of m ≡ k) ⊎ (m ≡ p.second)
    either m (inl f) = inl (ap slot_of f ∙ sym e)
    either m (inr f) = inr f

only_second : (p : WatchedPair) (k : ℕ) (c : List (Signed ℕ)) → k ≡ slot_of p.second → All (λ m. (m ≡ p.first) ⊎ (m ≡ p.second)) c → All (λ m. (slot_of m ≡ k) ⊎ (m ≡ p.first)) c
only_second p k c e all = All-weaker (λ m. (m ≡ p.first) ⊎ (m ≡ p.second)) (λ m. (slot_of m ≡ k) ⊎ (m ≡ p.first)) (λ m h. either m h) c all
  where
    either : (m : Signed ℕ) → (m ≡ p.first) ⊎ (m ≡ p.second) → (slot_of m ≡ k) ⊎ (m ≡ p.first)
    either m (inl f) = inr f
    either m (inr f) = inl (ap slot_of f ∙ sym e)

-- two different literals of a clause of two are all of it
pub two_of : (c : List (Signed ℕ)) (a b : Signed ℕ) → length c ≡ 2 → Contains c a → Contains c b → a ≢ b → All (λ m. (m ≡ a) ⊎ (m ≡ b)) c
two_of [] a b size i j apart = absurd (omega (arith, size))
two_of (x ∷ []) a b size i j apart = absurd (omega (arith, size))
two_of (x ∷ y ∷ []) a b size (zero, h, s) (zero, k, t) apart = absurd (apart (sym s ∙ t))
two_of (x ∷ y ∷ []) a b size (zero, h, s) (suc zero, k, t) apart = All-cons (λ m. (m ≡ a) ⊎ (m ≡ b)) x (y ∷ []) (inl s) (All-cons (λ m. (m ≡ a) ⊎ (m ≡ b)) y [] (inr t) (All-nil (λ m. (m ≡ a) ⊎ (m ≡ b))))
two_of (x ∷ y ∷ []) a b size (suc zero, h, s) (zero, k, t) apart = All-cons (λ m. (m ≡ a) ⊎ (m ≡ b)) x (y ∷ []) (inr t) (All-cons (λ m. (m ≡ a) ⊎ (m ≡ b)) y [] (inl s) (All-nil (λ m. (m ≡ a) ⊎ (m ≡ b))))
two_of (x ∷ y ∷ []) a b size (suc zero, h, s) (suc zero, k, t) apart = absurd (apart (sym s ∙ t))
two_of (x ∷ y ∷ []) a b size (suc (suc i), h, s) j apart = absurd (omega (arith, h))
two_of (x ∷ y ∷ []) a b size i (suc (suc j), k, t) apart = absurd (omega (arith, k))
two_of (x ∷ y ∷ z ∷ zs) a b size i j apart = absurd (omega (arith, size))

-- a clause that watched nothing begins to watch a pair
pub paired_watched : (clauses : List (Option (List (Signed ℕ)))) (lists : List (List Watch)) (pairs : List (Option WatchedPair)) (n : ℕ) (p : WatchedPair) (bit : Bool) (c : List (Signed ℕ)) → AreWatched clauses lists pairs → pair_at pairs n ≡ None → clause_number clauses n ≡ Some c
    → Contains c p.first → Contains c p.second → (bit ≡ true → All (λ m. (m ≡ p.first) ⊎ (m ≡ p.second)) c) → slot_of p.first ≢ slot_of p.second → slot_of p.first < length lists → slot_of p.second < length lists → n < length pairs
    → AreWatched clauses (with_pair lists n p bit) (set pairs n (Some p))
paired_watched clauses lists pairs n p bit c h none at a b two apart in_a in_b room = record {
  blockers = λ k x d has here. blocker k x d has here;
  counted = λ k m. count k m;
  of_clauses = λ m q e. of_clause m q e;
}
  where
    mid : List (List Watch)
    mid = add_to lists p.first (record { number = n; blocker = p.second; binary = bit })

    in_mid : slot_of p.second < length (add_to lists p.first (record { number = n; blocker = p.second; binary = bit }))
    in_mid = subst (λ m. slot_of p.second < m) (sym (length-set lists (slot_of p.first) (list_at lists (slot_of p.first) ++ (record { number = n; blocker = p.second; binary = bit }) ∷ []))) in_b

    is : (d : List (Signed ℕ)) (x : Watch) → x.number ≡ n → clause_number clauses x.number ≡ Some d → c ≡ d
    is d x same here = same_Some c d (sym at ∙ ap (clause_number clauses) (sym same) ∙ here)

    blocker : (k : ℕ) (x : Watch) (d : List (Signed ℕ)) → Contains (list_at (with_pair lists n p bit) k) x → clause_number clauses x.number ≡ Some d → IsBlocker d k x
    blocker k x d has here =
        elim (added_in (add_to lists p.first (record { number = n; blocker = p.second; binary = bit })) p.second (record { number = n; blocker = p.first; binary = bit }) x k in_mid has) [
          | inl old ↦ elim (added_in lists p.first (record { number = n; blocker = p.second; binary = bit }) x k in_a old) [
            | inl older ↦ h.blockers k x d older here
            | inr new ↦
                subst (λ y. IsBlocker d k y) new.1 (subst (λ e. IsBlocker e k (record { number = n; blocker = p.second; binary = bit })) (is d x (ap (λ (y : Watch). y.number) (sym new.1)) here)
                (record { here = b; only = λ e. only_first p k c new.0 (two e) }))
          ]
          | inr new ↦
              subst (λ y. IsBlocker d k y) new.1 (subst (λ e. IsBlocker e k (record { number = n; blocker = p.first; binary = bit })) (is d x (ap (λ (y : Watch). y.number) (sym new.1)) here)
              (record { here = a; only = λ e. only_second p k c new.0 (two e) }))
        ]

    first_times : (k m : ℕ) → slot_of p.first ≡ k → times m (list_at (with_pair lists n p bit) k) ≡ times m (list_at lists k) + one_if (n == m)
    first_times k m e =
        ap (times m) (added_other (add_to lists p.first (record { number = n; blocker = p.second; binary = bit })) p.second (record { number = n; blocker = p.first; binary = bit }) k (λ f. apart (e ∙ f)))
        ∙ added_times lists p.first (record { number = n; blocker = p.second; binary = bit }) k m in_a e

    second_times : (k m : ℕ) → slot_of p.second ≡ k → times m (list_at (with_pair lists n p bit) k) ≡ times m (list_at lists k) + one_if (n == m)
    second_times k m e =
        added_times (add_to lists p.first (record { number = n; blocker = p.second; binary = bit })) p.second (record { number = n; blocker = p.first; binary = bit }) k m in_mid e
        ∙ ap (λ xs. times m xs + one_if (n == m)) (added_other lists p.first (record { number = n; blocker = p.second; binary = bit }) k (λ f. apart (sym f ∙ sym e)))

    other_times : (k m : ℕ) → slot_of p.first ≢ k → slot_of p.second ≢ k → times m (list_at (with_pair lists n p bit) k) ≡ times m (list_at lists k)
    other_times k m e f =
        ap (times m) (added_other (add_to lists p.first (record { number = n; blocker = p.second; binary = bit })) p.second (record { number = n; blocker = p.first; binary = bit }) k (λ g. f (sym g)) ∙ added_other lists p.first (record { number = n; blocker = p.second; binary = bit }) k (λ g. e (sym g)))

    old_zero : (k m : ℕ) → m ≡ n → times m (list_at lists k) ≡ 0
    old_zero k m e = h.counted k m ∙ ap (λ i. due (pair_at pairs i) k) e ∙ ap (λ o. due o k) none

    new_due : (k m : ℕ) → m ≡ n → due (pair_at (set pairs n (Some p)) m) k ≡ due (Some p) k
    new_due k m e = ap (λ i. due (pair_at (set pairs n (Some p)) i) k) e ∙ ap (λ o. due o k) (pair_at_set pairs n (Some p) room)

    old_due : (k m : ℕ) → m ≢ n → due (pair_at (set pairs n (Some p)) m) k ≡ times m (list_at lists k)
    old_due k m e = ap (λ o. due o k) (pair_at_other pairs n m (Some p) e) ∙ sym (h.counted k m)

    count : (k m : ℕ) → times m (list_at (with_pair lists n p bit) k) ≡ due (pair_at (set pairs n (Some p)) m) k
    count k m = elim (cases_eq m n) [
      | inl e ↦ elim (cases_eq (slot_of p.first) k) [
        | inl f ↦ omega (arith, first_times k m f, old_zero k m e, one_here n m (sym e), new_due k m e, due_first p.first p.second k f)
        | inr f ↦ elim (cases_eq (slot_of p.second) k) [
          | inl g ↦ omega (arith, second_times k m g, old_zero k m e, one_here n m (sym e), new_due k m e, due_second p.first p.second k g)
          | inr g ↦ omega (arith, other_times k m f g, old_zero k m e, new_due k m e, due_neither p.first p.second k f g)
        ]
      ]
      | inr e ↦ elim (cases_eq (slot_of p.first) k) [
        | inl f ↦ omega (arith, first_times k m f, one_not n m (λ x. e (sym x)), old_due k m e)
        | inr f ↦ elim (cases_eq (slot_of p.second) k) [
          | inl g ↦ omega (arith, second_times k m g, one_not n m (λ x. e (sym x)), old_due k m e)
          | inr g ↦ omega (arith, other_times k m f g, old_due k m e)
        ]
      ]
    ]

    of_clause : (m : ℕ) (q : WatchedPair) → pair_at (set pairs n (Some p)) m ≡ Some q → IsPairOf clauses m q
    of_clause m q e = elim (cases_eq m n) [
      | inl same ↦
          let is : q ≡ p = same_Some q p (sym e ∙ ap (pair_at (set pairs n (Some p))) same ∙ pair_at_set pairs n (Some p) room) in
          subst (IsPairOf clauses m) (sym is) (record { clause = c; here = ap (clause_number clauses) same ∙ at; first = a; second = b; apart = apart })
      | inr other ↦ h.of_clauses m q (sym (pair_at_other pairs n m (Some p) other) ∙ e)
    ]

-- both literals of the pair are not false
pub paired_runs : (clauses : List (Option (List (Signed ℕ)))) (level : ℕ) (v : Values) (pairs : List (Option WatchedPair)) (n : ℕ) (p : WatchedPair) → n < length pairs → (IsFalseIn (entries_of v) p.first → ⊥) → (IsFalseIn (entries_of v) p.second → ⊥)
    → Runs clauses level v pairs v (set pairs n (Some p))
paired_runs clauses level v pairs n p room a b = record {
  added = nothing_added clauses (at_level level v);
  kept = λ part h within settled m q g at watches falsified. elim (cases_eq m n) [
    | inl same ↦
        let is : q ≡ p = same_Some q p (sym at ∙ ap (pair_at (set pairs n (Some p))) same ∙ pair_at_set pairs n (Some p) room) in
        absurd (of_pair g (subst (λ x. Watches x g) is watches) (within (complement g) (Contains-take (literals_of part) h (complement g) falsified)))
    | inr other ↦ settled m q g (sym (pair_at_other pairs n m (Some p) other) ∙ at) watches falsified
  ];
  loose = λ m e. still_none m e;
  room = length-set pairs n (Some p);
}
  where
    of_pair : (g : Signed ℕ) → Watches p g → IsFalseIn (entries_of v) g → ⊥
    of_pair g (inl e) f = a (subst (IsFalseIn (entries_of v)) (sym e) f)
    of_pair g (inr e) f = b (subst (IsFalseIn (entries_of v)) (sym e) f)

    still_none : (m : ℕ) → pair_at (set pairs n (Some p)) m ≡ None → pair_at pairs m ≡ None
    still_none m e = elim (cases_eq m n) [
      | inl same ↦ absurd (none-some p (sym e ∙ ap (pair_at (set pairs n (Some p))) same ∙ pair_at_set pairs n (Some p) room))
      | inr other ↦ sym (pair_at_other pairs n m (Some p) other) ∙ e
    ]

-- a unit gives its literal
pub unit_running : (clauses : List (Option (List (Signed ℕ)))) (level : ℕ) (v v' : Values) (lists : List (List Watch)) (pairs : List (Option WatchedPair)) (n : ℕ) (o : Signed ℕ) → IsRunning clauses level v lists pairs → o.atom < length v.entries.items → IsUnset (entries_of v) o.atom
    → AreValues v' → entries_of v' ≡ entries_of v ++ (record { lit = o; level = level; reason = Some n }) ∷ [] → length v'.entries.items ≡ length v.entries.items → IsRunning clauses level v' lists pairs
unit_running clauses level v v' lists pairs n o r low unset values entries size = record {
  values = values;
  trail = same_trail (with_implied (at_level level v) o n) (length v'.entries.items) (entries_of v') (implied (at_level level v) o n r.trail low unset) size entries;
  watched = r.watched;
  slots = r.slots ∙ ap (λ m. m + m) (sym size);
  below = subst (λ m. ClausesBelow m clauses) (sym size) r.below;
}

pub unit_runs : (clauses : List (Option (List (Signed ℕ)))) (level : ℕ) (v v' : Values) (pairs : List (Option WatchedPair)) (n : ℕ) (o : Signed ℕ) (c : List (Signed ℕ)) → clause_number clauses n ≡ Some c → Contains c o → All (λ m. IsFalseIn (entries_of v) m ⊎ (m ≡ o)) c
    → entries_of v' ≡ entries_of v ++ (record { lit = o; level = level; reason = Some n }) ∷ [] → length v'.entries.items ≡ length v.entries.items → Runs clauses level v pairs v' pairs
unit_runs clauses level v v' pairs n o c at has all entries size =
    let t = at_level level v in
    let is : at_level level v' ≡ with_implied t o n = ap (λ m. trail_of m level (entries_of v') false) size ∙ ap (λ es. trail_of (length v.entries.items) level es false) entries in
    record {
      added = subst (Propagates clauses t) (sym is) (one_added clauses t o n c at (record { here = has; others = all }));
      kept = λ part h within settled. settled;
      loose = λ m e. e;
      room = refl;
    }

pub last_true : (es more : List Entry) (o : Signed ℕ) (level n : ℕ) → more ≡ es ++ (record { lit = o; level = level; reason = Some n }) ∷ [] → Contains (literals_of more) o
last_true es more o level n e =
    subst (λ xs. Contains (literals_of xs) o) (sym e) (subst (λ xs. Contains xs o) (sym (map-append (λ (x : Entry). x.lit) es ((record { lit = o; level = level; reason = Some n }) ∷ []))) (Contains-push (literals_of es) o))

pub none_at : (read pair : Option WatchedPair) → read ≡ pair → is_some read ≡ false → pair ≡ None
none_at read pair same f = sym same ∙ is_none read f
  where
    is_none : (o : Option WatchedPair) → is_some o ≡ false → o ≡ None
    is_none None e = refl
    is_none (Some x) e = absurd cc

-- a list from which one item was taken
pub front_removed : {X : Type 0} (xs : List X) (i : ℕ) (d : X) → slice_get xs i ≡ Some d → (take i (swap_remove xs i d) ≡ take i xs) × (length (swap_remove xs i d) + 1 ≡ length xs)
front_removed xs i d at =
    let inside = slice_get_within xs i d at in
    let last = slice_index_or xs (length xs - 1) d in
    let size : length (set xs i last) ≡ length xs = length-set xs i last in
    (take_of_take (set xs i last) (length xs - 1) i (omega (arith, inside)) ∙ take-set xs i last, omega (arith, inside, size, length-take (length xs - 1) (set xs i last)))

pub contains_kept : {X : Type 0} (xs : List X) (i : ℕ) (d x : X) → slice_get xs i ≡ Some d → Contains xs x → (x ≡ d → ⊥) → Contains (swap_remove xs i d) x
contains_kept xs i d x at c other =
    let j = slice_get-Contains xs x c in
    let inside = slice_get_within xs i d at in
    let low = slice_get_within xs j.0 x j.1 in
    let last = slice_index_or xs (length xs - 1) d in
    elim (cases_eq j.0 i) [
      | inl same ↦ absurd (other (same_Some x d (sym j.1 ∙ ap (slice_get xs) same ∙ at)))
      | inr apart ↦ elim (cases_eq j.0 (length xs - 1)) [
        | inl end ↦
            let is : last ≡ x = get_or_from_slice_get xs (length xs - 1) x d (ap (slice_get xs) (sym end) ∙ j.1) in
            let moved : slice_get (set xs i last) i ≡ Some x = slice_get_set xs i last inside ∙ ap Some is in
            Contains-slice_get (swap_remove xs i d) i x (take_slice_get (set xs i last) (length xs - 1) i x (omega (arith, inside, apart, end)) moved)
        | inr before ↦
            let stays : slice_get (set xs i last) j.0 ≡ Some x = slice_get_set_other xs i j.0 last apart ∙ j.1 in
            Contains-slice_get (swap_remove xs i d) j.0 x (take_slice_get (set xs i last) (length xs - 1) j.0 x (omega (arith, low, before)) stays)
      ]
    ]

pub loose_begins : (clauses : List (Option (List (Signed ℕ)))) (level : ℕ) (v : Values) (lists : List (List Watch)) (pairs : List (Option WatchedPair)) (loose : List ℕ) (passed : ℕ) → IsRunning clauses level v lists pairs → AreLoose clauses (entries_of v) pairs loose passed
    → IsLooseRun clauses level v pairs loose passed v lists pairs loose passed
loose_begins clauses level v lists pairs loose passed r a = record { running = r; runs = runs_none clauses level v pairs; are_loose = a; front = refl; on = omega arith; short = omega arith }

seen_still : (clauses : List (Option (List (Signed ℕ)))) (level : ℕ) (v v' : Values) (pairs pairs' : List (Option WatchedPair)) (ns : List ℕ) → Runs clauses level v pairs v' pairs' → All (IsTrueAt clauses (entries_of v)) ns → All (IsTrueAt clauses (entries_of v')) ns
seen_still clauses level v v' pairs pairs' ns step seen = All-weaker (IsTrueAt clauses (entries_of v)) (IsTrueAt clauses (entries_of v')) (λ n t. still_true clauses (entries_of v) (entries_of v') n step.added.kept t) ns seen

-- the loose clauses stay while pairs and values change
pub loose_on : (clauses : List (Option (List (Signed ℕ)))) (level : ℕ) (v v' : Values) (pairs pairs' : List (Option WatchedPair)) (loose : List ℕ) (passed : ℕ) → Runs clauses level v pairs v' pairs' → AreLoose clauses (entries_of v) pairs loose passed → AreLoose clauses (entries_of v') pairs' loose passed
loose_on clauses level v v' pairs pairs' loose passed step a = record {
  room = λ n c at. subst (λ m. n < m) (sym step.room) (a.room n c at);
  all = λ n c at none. a.all n c at (step.loose n none);
  there = a.there;
  seen = seen_still clauses level v v' pairs pairs' (take passed loose) step a.seen;
  low = a.low;
}

pub loose_passed : (clauses : List (Option (List (Signed ℕ)))) (level : ℕ) (v v' v'' : Values) (lists'' : List (List Watch)) (lists' : List (List Watch)) (pairs pairs' pairs'' : List (Option WatchedPair)) (loose loose' : List ℕ) (passed passed' n : ℕ)
    → IsLooseRun clauses level v pairs loose passed v' lists' pairs' loose' passed' → slice_get loose' passed' ≡ Some n → IsRunning clauses level v'' lists'' pairs'' → Runs clauses level v' pairs' v'' pairs'' → IsTrueAt clauses (entries_of v'') n
    → IsLooseRun clauses level v pairs loose passed v'' lists'' pairs'' loose' (passed' + 1)
loose_passed clauses level v v' v'' lists'' lists' pairs pairs' pairs'' loose loose' passed passed' n run at next step true_now =
    let on = loose_on clauses level v' v'' pairs' pairs'' loose' passed' step run.are_loose in
    let inside = slice_get_within loose' passed' n at in
    let here : IsTrueAt clauses (entries_of v'') (get_or loose' passed' n) = subst (IsTrueAt clauses (entries_of v'')) (sym (get_or_from_slice_get loose' passed' n n at)) true_now in
    record {
      running = next;
      runs = runs_on clauses level v v' v'' pairs pairs' pairs'' run.runs step;
      are_loose = record { room = on.room; all = on.all; there = on.there; seen = all_more (IsTrueAt clauses (entries_of v'')) loose' passed' n inside on.seen here; low = omega (arith, inside) };
      front = run.front;
      on = omega (arith, run.on);
      short = run.short;
    }

pub loose_taken : (clauses : List (Option (List (Signed ℕ)))) (level : ℕ) (v v' v'' : Values) (lists'' : List (List Watch)) (lists' : List (List Watch)) (pairs pairs' pairs'' : List (Option WatchedPair)) (loose loose' : List ℕ) (passed passed' n : ℕ)
    → IsLooseRun clauses level v pairs loose passed v' lists' pairs' loose' passed' → slice_get loose' passed' ≡ Some n → IsRunning clauses level v'' lists'' pairs'' → Runs clauses level v' pairs' v'' pairs''
    → ((c : List (Signed ℕ)) → clause_number clauses n ≡ Some c → pair_at pairs'' n ≢ None) → IsLooseRun clauses level v pairs loose passed v'' lists'' pairs'' (swap_remove loose' passed' n) passed'
loose_taken clauses level v v' v'' lists'' lists' pairs pairs' pairs'' loose loose' passed passed' n run at next step taken =
    let on = loose_on clauses level v' v'' pairs' pairs'' loose' passed' step run.are_loose in
    let less = front_removed loose' passed' n at in
    let inside = slice_get_within loose' passed' n at in
    record {
      running = next;
      runs = runs_on clauses level v v' v'' pairs pairs' pairs'' run.runs step;
      are_loose = record {
        room = on.room;
        all = λ m c here none. contains_kept loose' passed' n m at (on.all m c here none) (λ e. taken c (ap (clause_number clauses) (sym e) ∙ here) (ap (pair_at pairs'') (sym e) ∙ none));
        there = λ m c. on.there m (contains_removed loose' passed' n m at c);
        seen = subst (All (IsTrueAt clauses (entries_of v''))) (sym less.0) on.seen;
        low = omega (arith, inside, less.1);
      };
      front = sym (take_of_take (swap_remove loose' passed' n) passed' passed run.on) ∙ ap (take passed) less.0 ∙ take_of_take loose' passed' passed run.on ∙ run.front;
      on = run.on;
      short = omega (arith, run.short, less.1);
    }
