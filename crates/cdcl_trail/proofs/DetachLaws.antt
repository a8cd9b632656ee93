-- A clause is detached.
use Rattle.std.proofs.Common.{◌≡◌, ◌≢◌, ℕ, zero, suc, ◌+◌, ◌<◌, inl, inr, Bool, true, false, List, [], ◌∷◌, ◌++◌, length, map, take, drop, set, get_or, Option, Some, None, refl, sym, ap, ◌∙◌, subst, arith, length-set}
use Rattle.std.specs.Prelude.{All, Contains, slice_get, ◌==◌}
use Rattle.std.specs.List.{swap_remove}
use Rattle.std.proofs.lemmas.List.{get_or-set_same, get_or-set_other}
use Rattle.std.proofs.lemmas.List.Sums.{count_by_more_no}
use Rattle.std.proofs.lemmas.Option.{none-some, slice_get_within, get_or_from_slice_get}
use Rattle.std.proofs.lemmas.Bool.{cases_eq, ne_eqb}
use Rattle.inst_logic.specs.declared.signed.Signed.{Signed}
use Rattle.inst_logic.specs.Signed.{complement}
use Rattle.cdcl_trail.specs.Attached.{Watching, head_at, AreAttached}
use Rattle.cdcl_trail.specs.Clauses.{clause_number, RemovesClause}
use Rattle.cdcl_trail.specs.Detach.{IsUnwatched, IsUnwatchedTo, IsUnwatchedBoth, IsUnwatchedAll, unpassed}
use Rattle.cdcl_trail.specs.Trail.{Trail, literals_of, entries_up_to}
use Rattle.cdcl_trail.specs.Watch.{slot_of, list_at, times, due, pair_at, AreWatched}
use Rattle.cdcl_trail.specs.Watching.{IsTrueAt}
use Rattle.cdcl_trail.specs.declared.watch.Head.{Head}
use Rattle.cdcl_trail.specs.declared.watch.WatchedPair.{WatchedPair}
use Rattle.cdcl_trail.specs.declared.watch.Watch.{Watch}
use Rattle.cdcl_trail.proofs.CopyLaws.{copies_removed}
use Rattle.cdcl_trail.proofs.LooseLaws.{front_removed}
use Rattle.cdcl_trail.proofs.WatchLaws.{times_removed, one_not, contains_removed, due_first, due_second, due_neither}
use Rattle.cdcl_trail.proofs.VisitLaws.{slot_within}

-- the clause was taken out of all lists; the loose clauses are looked at again
pub attached_detached : (t : Trail) (w w' : Watching) (n : ℕ) (before after : List (Option (List (Signed ℕ)))) → RemovesClause before after n → RemovesClause w.copies w'.copies n → AreAttached (record { trail = t; watching = w }) before → pair_at w'.pairs n ≡ None → ((m : ℕ) → m ≢ n → pair_at w'.pairs m ≡ pair_at w.pairs m) → length w'.pairs ≡ length w.pairs
    → ((k m : ℕ) → m ≢ n → times m (list_at w'.lists k) ≡ times m (list_at w.lists k)) → ((k : ℕ) → times n (list_at w'.lists k) ≡ 0) → ((k : ℕ) (x : Watch) → Contains (list_at w'.lists k) x → Contains (list_at w.lists k) x)
    → (Contains w'.loose n → ⊥) → ((m : ℕ) → m ≢ n → Contains w.loose m → Contains w'.loose m) → ((m : ℕ) → Contains w'.loose m → Contains w.loose m)
    → ((k : ℕ) → (head_at w' k).place ≡ (head_at w k).place) → ((k : ℕ) → (head_at w' k).passed ≡ 0) → AreAttached (record { trail = t; watching = w' }) after
attached_detached t w w' n before after removes goes a here other size others gone sub loose_gone loose_kept loose_sub places passed = record {
  watched = record {
    blockers = λ k x c has at. a.watched.blockers k x c (sub k x has) (earlier x.number c at);
    counted = λ k m. elim (cases_eq m n) [
      | inl e ↦ ap (λ i. times i (list_at w'.lists k)) e ∙ gone k ∙ sym (ap (λ o. due o k) (ap (pair_at w'.pairs) e ∙ here))
      | inr e ↦ others k m e ∙ a.watched.counted k m ∙ ap (λ o. due o k) (sym (other m e))
    ];
    of_clauses = λ m p e.
        let apart = watching_one m p e in
        let x = a.watched.of_clauses m p (sym (other m apart) ∙ e) in
        record { clause = x.clause; here = removes.others m apart ∙ x.here; first = x.first; second = x.second; apart = x.apart };
  };
  copies = copies_removed before after w.copies w'.copies w.pairs w'.pairs n removes goes (λ m p e. let apart = watching_one m p e in (apart, sym (other m apart) ∙ e)) a.copies;
  room = λ m c at. omega (arith, a.room m c (earlier m c at), size);
  loose = λ m c at none. loose_kept m (is_other m c at) (a.loose m c (earlier m c at) (sym (other m (is_other m c at)) ∙ none));
  there = λ m has none.
      let apart : m ≢ n = λ e. loose_gone (subst (Contains w'.loose) e has) in
      a.there m (loose_sub m has) (sym (removes.others m apart) ∙ none);
  levels = λ k low.
      let s = a.levels k low in
      record {
        settled = λ m p g at watches falsified d here. s.settled m p g (sym (other m (watching_one m p at)) ∙ at) watches (subst (λ h. Contains (take h (literals_of (entries_up_to t.entries k))) (complement g)) (places k) falsified) d (earlier m d here);
        seen = subst (λ h. All (IsTrueAt after (entries_up_to t.entries k)) (take h w'.loose)) (sym (passed k)) (λ i d h. absurd (omega (arith, h)));
        place = omega (arith, s.place, places k);
        passed = omega (arith, passed k);
      };
  rising = λ j k up low. omega (arith, passed j, passed k);
}
  where
    is_other : (m : ℕ) (c : List (Signed ℕ)) → clause_number after m ≡ Some c → m ≢ n
    is_other m c at e = none-some c (sym removes.removed ∙ ap (clause_number after) (sym e) ∙ at)

    earlier : (m : ℕ) (c : List (Signed ℕ)) → clause_number after m ≡ Some c → clause_number before m ≡ Some c
    earlier m c at = sym (removes.others m (λ e. none-some c (sym removes.removed ∙ ap (clause_number after) (sym e) ∙ at))) ∙ at

    watching_one : (m : ℕ) (p : WatchedPair) → pair_at w'.pairs m ≡ Some p → m ≢ n
    watching_one m p at e = none-some p (sym here ∙ ap (pair_at w'.pairs) (sym e) ∙ at)

-- one list is walked
pub unwatch_dropped : (n j place : ℕ) (old mid new : List (List Watch)) (w : Watch) → IsUnwatchedTo n j place old mid → j < length mid → slice_get (list_at mid j) place ≡ Some w → w.number ≡ n
    → new ≡ set mid j (swap_remove (list_at mid j) place w) → IsUnwatchedTo n j place old new
unwatch_dropped n j place old mid new w u inside at same is =
    let xs = list_at mid j in
    let here : list_at new j ≡ swap_remove xs place w = ap (λ ls. list_at ls j) is ∙ get_or-set_same mid j (swap_remove xs place w) [] inside in
    record {
      gone = ap (λ ys. times n (take place ys)) here ∙ ap (times n) (front_removed xs place w at).0 ∙ u.gone;
      others = λ m e. ap (times m) here ∙ omega (arith, times_removed m xs place w at, one_not w.number m (λ f. e (sym f ∙ same))) ∙ u.others m e;
      old_ones = λ x c. u.old_ones x (contains_removed xs place w x at (subst (λ ys. Contains ys x) here c));
      apart = λ k e. ap (λ ls. list_at ls k) is ∙ get_or-set_other mid j k (swap_remove xs place w) [] e ∙ u.apart k e;
      size = ap length is ∙ length-set mid j (swap_remove xs place w) ∙ u.size;
    }

pub unwatch_kept : (n j place : ℕ) (old mid : List (List Watch)) (w : Watch) → IsUnwatchedTo n j place old mid → slice_get (list_at mid j) place ≡ Some w → (w.number ≡ n → ⊥) → IsUnwatchedTo n j (place + 1) old mid
unwatch_kept n j place old mid w u at other =
    let xs = list_at mid j in
    let read : get_or xs place w ≡ w = get_or_from_slice_get xs place w w at in
    let no : ((get_or xs place w).number == n) ≡ false = ap (λ (x : Watch). x.number == n) read ∙ ne_eqb w.number n other in
    record {
      gone = count_by_more_no (λ (x : Watch). x.number == n) xs place w (slice_get_within xs place w at) no ∙ u.gone;
      others = u.others;
      old_ones = u.old_ones;
      apart = u.apart;
      size = u.size;
    }

-- both lists of a pair
pub unwatched_both : (n : ℕ) (p : WatchedPair) (old mid new : List (List Watch)) → slot_of p.first ≢ slot_of p.second → IsUnwatched n (slot_of p.first) old mid → IsUnwatched n (slot_of p.second) mid new → IsUnwatchedBoth n p old new
unwatched_both n p old mid new apart a b = record {
  first = ap (times n) (b.apart (slot_of p.first) apart) ∙ a.gone;
  second = b.gone;
  others = λ k m e. count (slot_of p.second) mid new b k m e ∙ count (slot_of p.first) old mid a k m e;
  old_ones = λ k x c. earlier (slot_of p.first) old mid a k x (earlier (slot_of p.second) mid new b k x c);
  apart = λ k e f. b.apart k f ∙ a.apart k e;
}
  where
    count : (j : ℕ) (xs ys : List (List Watch)) → IsUnwatched n j xs ys → (k m : ℕ) → m ≢ n → times m (list_at ys k) ≡ times m (list_at xs k)
    count j xs ys u k m e = elim (cases_eq k j) [
      | inl f ↦ ap (λ i. times m (list_at ys i)) f ∙ u.others m e ∙ ap (λ i. times m (list_at xs i)) (sym f)
      | inr f ↦ ap (times m) (u.apart k f)
    ]

    earlier : (j : ℕ) (xs ys : List (List Watch)) → IsUnwatched n j xs ys → (k : ℕ) (x : Watch) → Contains (list_at ys k) x → Contains (list_at xs k) x
    earlier j xs ys u k x c = elim (cases_eq k j) [
      | inl f ↦ subst (λ i. Contains (list_at xs i) x) (sym f) (u.old_ones x (subst (λ i. Contains (list_at ys i) x) f c))
      | inr f ↦ subst (λ l. Contains l x) (u.apart k f) c
    ]

pub unwatched_all : (clauses : List (Option (List (Signed ℕ)))) (n : ℕ) (p : WatchedPair) (old new : List (List Watch)) (pairs : List (Option WatchedPair)) → AreWatched clauses old pairs → pair_at pairs n ≡ Some p → IsUnwatchedBoth n p old new → IsUnwatchedAll n old new
unwatched_all clauses n p old new pairs h at u = record {
  gone = λ k. elim (cases_eq k (slot_of p.first)) [
    | inl e ↦ ap (λ i. times n (list_at new i)) e ∙ u.first
    | inr e ↦ elim (cases_eq k (slot_of p.second)) [
      | inl f ↦ ap (λ i. times n (list_at new i)) f ∙ u.second
      | inr f ↦ ap (times n) (u.apart k e f) ∙ h.counted k n ∙ ap (λ o. due o k) at ∙ due_neither p.first p.second k (λ x. e (sym x)) (λ x. f (sym x))
    ]
  ];
  others = u.others;
  old_ones = u.old_ones;
}

pub unwatched_none : (clauses : List (Option (List (Signed ℕ)))) (n : ℕ) (lists : List (List Watch)) (pairs : List (Option WatchedPair)) → AreWatched clauses lists pairs → pair_at pairs n ≡ None → IsUnwatchedAll n lists lists
unwatched_none clauses n lists pairs h none = record { gone = λ k. h.counted k n ∙ ap (λ o. due o k) none; others = λ k m e. refl; old_ones = λ k x c. c }

-- the literals of a pair have lists
pub pair_slots : (clauses : List (Option (List (Signed ℕ)))) (n atoms : ℕ) (p : WatchedPair) (lists : List (List Watch)) (pairs : List (Option WatchedPair)) → AreWatched clauses lists pairs → pair_at pairs n ≡ Some p → length lists ≡ atoms + atoms
    → (p.first.atom < atoms) × (p.second.atom < atoms)
pair_slots clauses n atoms p lists pairs h at size = (
  of_slot p.first (inside (slot_of p.first) (due_first p.first p.second (slot_of p.first) refl)),
  of_slot p.second (inside (slot_of p.second) (due_second p.first p.second (slot_of p.second) refl)),
)
  where
    some : (xs : List Watch) → 0 < times n xs → (w : Watch) × (slice_get xs 0 ≡ Some w)
    some [] h = absurd (omega (arith, h))
    some (x ∷ xs) h = (x, refl)

    inside : (k : ℕ) → due (Some p) k ≡ 1 → k < length lists
    inside k e =
        let one : times n (list_at lists k) ≡ 1 = h.counted k n ∙ ap (λ o. due o k) at ∙ e in
        let w = some (list_at lists k) (omega (arith, one)) in
        slot_within lists k 0 w.0 w.1

    of_slot : (l : Signed ℕ) → slot_of l < length lists → l.atom < atoms
    of_slot l low = by_sign l.positive refl
      where
        by_sign : (b : Bool) → l.positive ≡ b → l.atom < atoms
        by_sign true s =
            let x : slot_of l ≡ l.atom + l.atom + 1 = rw s refl in
            omega (arith, x, low, size)
        by_sign false s =
            let x : slot_of l ≡ l.atom + l.atom + 0 = rw s refl in
            omega (arith, x, low, size)

-- heads with nothing passed
pub unpassed_at : (hs : List Head) (h : Head) (k : ℕ) → get_or (map unpassed hs) k (unpassed h) ≡ unpassed (get_or hs k h)
unpassed_at [] h k = refl
unpassed_at (x ∷ xs) h zero = refl
unpassed_at (x ∷ xs) h (suc k) = unpassed_at xs h k

-- one head more
pub set_step : (xs : List Head) (p : ℕ) (d : Head) → p < length xs → set (map unpassed (take p xs) ++ drop p xs) p (unpassed (get_or xs p d)) ≡ map unpassed (take (suc p) xs) ++ drop (suc p) xs
set_step [] p d h = absurd (omega (arith, h))
set_step (x ∷ xs) zero d h = refl
set_step (x ∷ xs) (suc p) d h = ap (λ ys. unpassed x ∷ ys) (set_step xs p d (omega (arith, h)))

pub read_step : (xs : List Head) (p : ℕ) (d : Head) → get_or (map unpassed (take p xs) ++ drop p xs) p d ≡ get_or xs p d
read_step [] zero d = refl
read_step [] (suc p) d = refl
read_step (x ∷ xs) zero d = refl
read_step (x ∷ xs) (suc p) d = read_step xs p d
