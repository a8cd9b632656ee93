-- What moves of watches keep.
use Rattle.std.proofs.Common.{◌≡◌, ◌≢◌, ℕ, suc, zero, ◌+◌, ◌-◌, ◌<◌, Bool, true, false, cond, ◌⊎◌, inl, inr, List, [], ◌∷◌, ◌++◌, length, map, set, get_or, Option, Some, None, refl, sym, ap, ◌∙◌, subst, arith, length-set}
use Rattle.std.specs.Prelude.{Contains, slice_get, ◌==◌, ◌||◌}
use Rattle.std.specs.List.{swap_remove, sum_by}
use Rattle.std.proofs.lemmas.List.{get_or-set_same, get_or-set_other}
use Rattle.std.proofs.lemmas.List.Elements.{Contains-push_cases}
use Rattle.std.proofs.lemmas.List.Sums.{sum_by-append, sum_by-swap_remove, sum_by-set}
use Rattle.std.proofs.lemmas.Option.{none-some, same_Some, slice_get_within, slice_get-get_or, get_or_from_slice_get}
use Rattle.std.proofs.Math.Seq.{map-set_same}
use Rattle.std.proofs.lemmas.Bool.{cases_eq, eq-eqb, ne_eqb}
use Rattle.inst_logic.specs.declared.signed.Signed.{Signed}
use Rattle.prop_logic.proofs.ListLaws.{slice_get_set, slice_get_set_other, Contains-slice_get, slice_get-Contains, slice_get_take}
use Rattle.cdcl_trail.specs.Clauses.{clause_number}
use Rattle.cdcl_trail.specs.declared.watch.Watch.{Watch}
use Rattle.cdcl_trail.specs.declared.watch.WatchedPair.{WatchedPair}
use Rattle.cdcl_trail.specs.Watch.{slot_of, list_at, times, pair_in, pair_at, due, pair_of, HasBoth, IsPairOf, IsBlocker, AreWatched, IsMove}

abbrev pub one_if : Bool → ℕ
one_if b = cond b 1 0

pub times_push : (n : ℕ) (xs : List Watch) (w : Watch) → times n (xs ++ w ∷ []) ≡ times n xs + one_if (w.number == n)
times_push n xs w = omega (arith, sum_by-append (λ x. one_if (x.number == n)) xs (w ∷ []))

pub times_removed : (n : ℕ) (xs : List Watch) (i : ℕ) (w : Watch) → slice_get xs i ≡ Some w → times n (swap_remove xs i w) + one_if (w.number == n) ≡ times n xs
times_removed n xs i w at =
    let f : Watch → ℕ = λ x. one_if (x.number == n) in
    let same : get_or xs i w ≡ w = get_or_from_slice_get xs i w w at in
    subst (λ x. sum_by f (swap_remove xs i w) + f x ≡ sum_by f xs) same (sum_by-swap_remove f xs i w (slice_get_within xs i w at))

contains_set : {X : Type 0} (xs : List X) (i : ℕ) (y x : X) → Contains (set xs i y) x → Contains xs x ⊎ (x ≡ y)
contains_set xs i y x c =
    let at = slice_get-Contains (set xs i y) x c in
    elim (cases_eq at.0 i) [
      | inl same ↦
          let inside : i < length xs = omega (arith, same, length-set xs i y, slice_get_within (set xs i y) at.0 x at.1) in
          inr (same_Some x y (sym at.1 ∙ ap (slice_get (set xs i y)) same ∙ slice_get_set xs i y inside))
      | inr other ↦ inl (Contains-slice_get xs at.0 x (sym (slice_get_set_other xs i at.0 y other) ∙ at.1))
    ]

pub contains_removed : {X : Type 0} (xs : List X) (i : ℕ) (w x : X) → slice_get xs i ≡ Some w → Contains (swap_remove xs i w) x → Contains xs x
contains_removed xs i w x here c =
    let inside = slice_get_within xs i w here in
    let last : ℕ = length xs - 1 in
    let end : slice_get xs last ≡ Some (get_or xs last w) = slice_get-get_or xs last w (omega (arith, inside)) in
    let at = slice_get-Contains (swap_remove xs i w) x c in
    let more = Contains-slice_get (set xs i (get_or xs last w)) at.0 x (slice_get_take (set xs i (get_or xs last w)) last at.0 x at.1).0 in
    elim (contains_set xs i (get_or xs last w) x more) [
      | inl old ↦ old
      | inr same ↦ subst (Contains xs) (sym same) (Contains-slice_get xs last (get_or xs last w) end)
    ]

pub pair_at_set : (pairs : List (Option WatchedPair)) (n : ℕ) (o : Option WatchedPair) → n < length pairs → pair_at (set pairs n o) n ≡ o
pair_at_set pairs n o h = ap pair_in (slice_get_set pairs n o h)

pub pair_at_other : (pairs : List (Option WatchedPair)) (n m : ℕ) (o : Option WatchedPair) → (m ≡ n → ⊥) → pair_at (set pairs n o) m ≡ pair_at pairs m
pair_at_other pairs n m o h = ap pair_in (slice_get_set_other pairs n m o h)

pub pair_within : (pairs : List (Option WatchedPair)) (n : ℕ) (p : WatchedPair) → pair_at pairs n ≡ Some p → n < length pairs
pair_within pairs n p at = by_get (slice_get pairs n) refl
  where
    by_get : (o : Option (Option WatchedPair)) → slice_get pairs n ≡ o → n < length pairs
    by_get None e = absurd (none-some p (ap pair_in (sym e) ∙ at))
    by_get (Some x) e = slice_get_within pairs n x e

pub due_first : (a b : Signed ℕ) (k : ℕ) → slot_of a ≡ k → due (Some (pair_of a b)) k ≡ 1
due_first a b k e =
    let t : (slot_of a == k) ≡ true = eq-eqb (slot_of a) k e in
    rw t refl

pub due_second : (a b : Signed ℕ) (k : ℕ) → slot_of b ≡ k → due (Some (pair_of a b)) k ≡ 1
due_second a b k e =
    let t : (slot_of b == k) ≡ true = eq-eqb (slot_of b) k e in
    by_test (slot_of a == k) t
  where
    by_test : (s : Bool) → (slot_of b == k) ≡ true → one_if (s || (slot_of b == k)) ≡ 1
    by_test true t = refl
    by_test false t = rw t refl

pub due_neither : (a b : Signed ℕ) (k : ℕ) → slot_of a ≢ k → slot_of b ≢ k → due (Some (pair_of a b)) k ≡ 0
due_neither a b k e f =
    let t : (slot_of a == k) ≡ false = ne_eqb (slot_of a) k e in
    let u : (slot_of b == k) ≡ false = ne_eqb (slot_of b) k f in
    rw t (rw u refl)

pub due_both : (p : WatchedPair) (f o : Signed ℕ) (k : ℕ) → HasBoth p f o → due (Some p) k ≡ due (Some (pair_of f o)) k
due_both p f o k (inl h) = ap (λ x. due (Some (pair_of x p.second)) k) h.0 ∙ ap (λ x. due (Some (pair_of f x)) k) h.1
due_both p f o k (inr h) = ap (λ x. due (Some (pair_of p.first x)) k) h.0 ∙ ap (λ x. due (Some (pair_of x f)) k) h.1 ∙ flip
  where
    flip : due (Some (pair_of o f)) k ≡ due (Some (pair_of f o)) k
    flip = by_tests (slot_of o == k) (slot_of f == k)
      where
        by_tests : (s t : Bool) → one_if (s || t) ≡ one_if (t || s)
        by_tests true true = refl
        by_tests true false = refl
        by_tests false true = refl
        by_tests false false = refl

-- the other watch changes from a literal to the next
pub due_moved : (f o next : Signed ℕ) (k : ℕ) → slot_of f ≢ k → slot_of next ≢ k → due (Some (pair_of f o)) k ≡ due (Some (pair_of o next)) k
due_moved f o next k a b = elim (cases_eq (slot_of o) k) [
  | inl e ↦ due_second f o k e ∙ sym (due_first o next k e)
  | inr n ↦ due_neither f o k a n ∙ sym (due_neither o next k n b)
]

pub one_here : (m n : ℕ) → m ≡ n → one_if (m == n) ≡ 1
one_here m n e =
    let t : (m == n) ≡ true = eq-eqb m n e in
    rw t refl

pub one_not : (m n : ℕ) → m ≢ n → one_if (m == n) ≡ 0
one_not m n e =
    let t : (m == n) ≡ false = ne_eqb m n e in
    rw t refl

pub not_true : {P : Type 0} → false ≡ true → P
not_true e = absurd cc

abbrev pub moved_lists : List (List Watch) → Signed ℕ → Signed ℕ → ℕ → Watch → Watch → List (List Watch)
moved_lists lists f next place w w' = set (set lists (slot_of next) (list_at lists (slot_of next) ++ w' ∷ [])) (slot_of f) (swap_remove (list_at lists (slot_of f)) place w)

abbrev pub new_watch : Watch → Signed ℕ → Watch
new_watch w o = record { number = w.number; blocker = o; binary = false }

-- the three kinds of slots
moved_here : (lists : List (List Watch)) (f next : Signed ℕ) (place : ℕ) (w w' : Watch) → slot_of f < length lists
    → list_at (moved_lists lists f next place w w') (slot_of f) ≡ swap_remove (list_at lists (slot_of f)) place w
moved_here lists f next place w w' h =
    let more = list_at lists (slot_of next) ++ w' ∷ [] in
    get_or-set_same (set lists (slot_of next) more) (slot_of f) (swap_remove (list_at lists (slot_of f)) place w) [] (omega (arith, h, length-set lists (slot_of next) more))

moved_next : (lists : List (List Watch)) (f next : Signed ℕ) (place : ℕ) (w w' : Watch) → slot_of next < length lists → slot_of next ≢ slot_of f
    → list_at (moved_lists lists f next place w w') (slot_of next) ≡ list_at lists (slot_of next) ++ w' ∷ []
moved_next lists f next place w w' h other =
    let more = list_at lists (slot_of next) ++ w' ∷ [] in
    get_or-set_other (set lists (slot_of next) more) (slot_of f) (slot_of next) (swap_remove (list_at lists (slot_of f)) place w) [] other ∙ get_or-set_same lists (slot_of next) more [] h

moved_other : (lists : List (List Watch)) (f next : Signed ℕ) (place : ℕ) (w w' : Watch) (k : ℕ) → k ≢ slot_of f → k ≢ slot_of next
    → list_at (moved_lists lists f next place w w') k ≡ list_at lists k
moved_other lists f next place w w' k a b =
    let more = list_at lists (slot_of next) ++ w' ∷ [] in
    get_or-set_other (set lists (slot_of next) more) (slot_of f) k (swap_remove (list_at lists (slot_of f)) place w) [] a ∙ get_or-set_other lists (slot_of next) k more [] b

pub moved_watched : (clauses : List (Option (List (Signed ℕ)))) (lists : List (List Watch)) (pairs : List (Option WatchedPair)) (f o next : Signed ℕ) (place : ℕ) (w : Watch) (p : WatchedPair) (c : List (Signed ℕ))
    → IsMove clauses lists pairs f o next place w p c → AreWatched clauses (moved_lists lists f next place w (new_watch w o)) (set pairs w.number (Some (pair_of o next)))
moved_watched clauses lists pairs f o next place w p c m = record {
  blockers = λ k x d has here. by_slot k x d has here;
  counted = λ k n. count_at k n;
  of_clauses = λ n q e. of_clause n q e;
}
  where
    new : List (List Watch)
    new = moved_lists lists f next place w (new_watch w o)

    inside : w.number < length pairs
    inside = pair_within pairs w.number p m.pair

    by_slot : (k : ℕ) (x : Watch) (d : List (Signed ℕ)) → Contains (list_at (moved_lists lists f next place w (new_watch w o)) k) x → clause_number clauses x.number ≡ Some d → IsBlocker d k x
    by_slot k x d has here = elim (cases_eq k (slot_of f)) [
      | inl e ↦
          let less = subst (λ xs. Contains xs x) (moved_here lists f next place w (new_watch w o) m.in_f) (subst (λ j. Contains (list_at (moved_lists lists f next place w (new_watch w o)) j) x) e has) in
          subst (λ j. IsBlocker d j x) (sym e) (m.watched.blockers (slot_of f) x d (contains_removed (list_at lists (slot_of f)) place w x m.at less) here)
      | inr a ↦ elim (cases_eq k (slot_of next)) [
        | inl e ↦
            let more = subst (λ xs. Contains xs x) (moved_next lists f next place w (new_watch w o) m.in_next m.not_f) (subst (λ j. Contains (list_at (moved_lists lists f next place w (new_watch w o)) j) x) e has) in
            elim (Contains-push_cases (list_at lists (slot_of next)) (new_watch w o) x more) [
              | inl old ↦ subst (λ j. IsBlocker d j x) (sym e) (m.watched.blockers (slot_of next) x d old here)
              | inr same ↦
                  let clause : d ≡ c = same_Some d c (sym here ∙ ap (λ (y : Watch). clause_number clauses y.number) (sym same) ∙ m.here) in
                  subst (λ y. IsBlocker d k y) same (record { here = subst (λ e. Contains e o) (sym clause) m.has_o; only = λ e. not_true e })
            ]
        | inr b ↦ m.watched.blockers k x d (subst (λ xs. Contains xs x) (moved_other lists f next place w (new_watch w o) k a b) has) here
      ]
    ]

    count_at : (k n : ℕ) → times n (list_at (moved_lists lists f next place w (new_watch w o)) k) ≡ due (pair_at (set pairs w.number (Some (pair_of o next))) n) k
    count_at k n = elim (cases_eq w.number n) [
      | inl same ↦ elim (cases_eq (slot_of f) k) [
        | inl e ↦ of_f k n same e
        | inr a ↦ elim (cases_eq (slot_of next) k) [ inl e ↦ of_next k n same a e | inr b ↦ of_rest k n same a b ]
      ]
      | inr other ↦ elim (cases_eq (slot_of f) k) [
        | inl e ↦ of_f_other k n other e
        | inr a ↦ elim (cases_eq (slot_of next) k) [ inl e ↦ of_next_other k n other e | inr b ↦ of_rest_other k n other a b ]
      ]
    ]
      where
        new_due : (k n : ℕ) → w.number ≡ n → due (pair_at (set pairs w.number (Some (pair_of o next))) n) k ≡ due (Some (pair_of o next)) k
        new_due k n same = ap (λ x. due x k) (ap (pair_at (set pairs w.number (Some (pair_of o next)))) (sym same) ∙ pair_at_set pairs w.number (Some (pair_of o next)) inside)

        old_due : (k n : ℕ) → w.number ≡ n → times n (list_at lists k) ≡ due (Some (pair_of f o)) k
        old_due k n same = m.watched.counted k n ∙ ap (λ x. due x k) (ap (pair_at pairs) (sym same) ∙ m.pair) ∙ due_both p f o k m.both

        same_due : (k n : ℕ) → w.number ≢ n → due (pair_at (set pairs w.number (Some (pair_of o next))) n) k ≡ times n (list_at lists k)
        same_due k n other = ap (λ x. due x k) (pair_at_other pairs w.number n (Some (pair_of o next)) (λ e. other (sym e))) ∙ sym (m.watched.counted k n)

        at_f : (k n : ℕ) → slot_of f ≡ k → times n (list_at (moved_lists lists f next place w (new_watch w o)) k) + one_if (w.number == n) ≡ times n (list_at lists k)
        at_f k n e = subst (λ j. times n (list_at (moved_lists lists f next place w (new_watch w o)) j) + one_if (w.number == n) ≡ times n (list_at lists j)) e
            (ap (λ xs. times n xs + one_if (w.number == n)) (moved_here lists f next place w (new_watch w o) m.in_f) ∙ times_removed n (list_at lists (slot_of f)) place w m.at)

        at_next : (k n : ℕ) → slot_of next ≡ k → times n (list_at (moved_lists lists f next place w (new_watch w o)) k) ≡ times n (list_at lists k) + one_if (w.number == n)
        at_next k n e = subst (λ j. times n (list_at (moved_lists lists f next place w (new_watch w o)) j) ≡ times n (list_at lists j) + one_if (w.number == n)) e
            (ap (times n) (moved_next lists f next place w (new_watch w o) m.in_next m.not_f) ∙ times_push n (list_at lists (slot_of next)) (new_watch w o))

        at_rest : (k n : ℕ) → slot_of f ≢ k → slot_of next ≢ k → times n (list_at (moved_lists lists f next place w (new_watch w o)) k) ≡ times n (list_at lists k)
        at_rest k n a b = ap (times n) (moved_other lists f next place w (new_watch w o) k (λ e. a (sym e)) (λ e. b (sym e)))

        of_f : (k n : ℕ) → w.number ≡ n → slot_of f ≡ k → times n (list_at (moved_lists lists f next place w (new_watch w o)) k) ≡ due (pair_at (set pairs w.number (Some (pair_of o next))) n) k
        of_f k n same e =
            let zero_due : due (Some (pair_of o next)) k ≡ 0 = due_neither o next k (λ x. m.apart (e ∙ sym x)) (λ x. m.not_f (x ∙ sym e)) in
            let was : times n (list_at lists k) ≡ 1 = old_due k n same ∙ due_first f o k e in
            omega (arith, zero_due, was, at_f k n e, one_here w.number n same, new_due k n same)

        of_next : (k n : ℕ) → w.number ≡ n → slot_of f ≢ k → slot_of next ≡ k → times n (list_at (moved_lists lists f next place w (new_watch w o)) k) ≡ due (pair_at (set pairs w.number (Some (pair_of o next))) n) k
        of_next k n same a e =
            let one_due : due (Some (pair_of o next)) k ≡ 1 = due_second o next k e in
            let was : times n (list_at lists k) ≡ 0 = old_due k n same ∙ due_neither f o k a (λ x. m.not_o (e ∙ sym x)) in
            omega (arith, one_due, was, at_next k n e, one_here w.number n same, new_due k n same)

        of_rest : (k n : ℕ) → w.number ≡ n → slot_of f ≢ k → slot_of next ≢ k → times n (list_at (moved_lists lists f next place w (new_watch w o)) k) ≡ due (pair_at (set pairs w.number (Some (pair_of o next))) n) k
        of_rest k n same a b = at_rest k n a b ∙ old_due k n same ∙ due_moved f o next k a b ∙ sym (new_due k n same)

        of_f_other : (k n : ℕ) → w.number ≢ n → slot_of f ≡ k → times n (list_at (moved_lists lists f next place w (new_watch w o)) k) ≡ due (pair_at (set pairs w.number (Some (pair_of o next))) n) k
        of_f_other k n other e = omega (arith, at_f k n e, one_not w.number n other, same_due k n other)

        of_next_other : (k n : ℕ) → w.number ≢ n → slot_of next ≡ k → times n (list_at (moved_lists lists f next place w (new_watch w o)) k) ≡ due (pair_at (set pairs w.number (Some (pair_of o next))) n) k
        of_next_other k n other e = omega (arith, at_next k n e, one_not w.number n other, same_due k n other)

        of_rest_other : (k n : ℕ) → w.number ≢ n → slot_of f ≢ k → slot_of next ≢ k → times n (list_at (moved_lists lists f next place w (new_watch w o)) k) ≡ due (pair_at (set pairs w.number (Some (pair_of o next))) n) k
        of_rest_other k n other a b = at_rest k n a b ∙ sym (same_due k n other)

    of_clause : (n : ℕ) (q : WatchedPair) → pair_at (set pairs w.number (Some (pair_of o next))) n ≡ Some q → IsPairOf clauses n q
    of_clause n q e = elim (cases_eq n w.number) [
      | inl same ↦
          let is : q ≡ pair_of o next = same_Some q (pair_of o next) (sym e ∙ ap (pair_at (set pairs w.number (Some (pair_of o next)))) same ∙ pair_at_set pairs w.number (Some (pair_of o next)) inside) in
          subst (IsPairOf clauses n) (sym is) (record {
            clause = c;
            here = ap (clause_number clauses) same ∙ m.here;
            first = m.has_o;
            second = m.has_next;
            apart = λ x. m.not_o (sym x);
          })
      | inr other ↦ m.watched.of_clauses n q (sym (pair_at_other pairs w.number n (Some (pair_of o next)) other) ∙ e)
    ]

-- a clause goes over to another literal, by the two steps of the move
pub moved_by : (clauses : List (Option (List (Signed ℕ)))) (lists mid new : List (List Watch)) (pairs : List (Option WatchedPair)) (f o next : Signed ℕ) (place number : ℕ) (r w : Watch) (p : WatchedPair) (c : List (Signed ℕ))
    → mid ≡ set lists (slot_of next) (list_at lists (slot_of next) ++ (record { number = number; blocker = o; binary = false }) ∷ [])
    → slice_get (list_at mid (slot_of f)) place ≡ Some r → new ≡ set mid (slot_of f) (swap_remove (list_at mid (slot_of f)) place r) → w.number ≡ number
    → IsMove clauses lists pairs f o next place w p c → AreWatched clauses new (set pairs number (Some (pair_of o next)))
moved_by clauses lists mid new pairs f o next place number r w p c first at second same m =
    let x : Watch = record { number = number; blocker = o; binary = false } in
    let more = list_at lists (slot_of next) ++ x ∷ [] in
    let kept : list_at mid (slot_of f) ≡ list_at lists (slot_of f) = ap (λ ls. list_at ls (slot_of f)) first ∙ get_or-set_other lists (slot_of next) (slot_of f) more [] (λ e. m.not_f (sym e)) in
    let is : r ≡ w = same_Some r w (sym at ∙ ap (λ xs. slice_get xs place) kept ∙ m.at) in
    let all : new ≡ moved_lists lists f next place w x = second ∙ ap (λ ls. set ls (slot_of f) (swap_remove (list_at mid (slot_of f)) place r)) first
    ∙ ap (λ xs. set (set lists (slot_of next) more) (slot_of f) (swap_remove xs place r)) kept
    ∙ ap (λ y. set (set lists (slot_of next) more) (slot_of f) (swap_remove (list_at lists (slot_of f)) place y)) is in
    let here : new_watch w o ≡ x = ap (λ n. (record { number = n; blocker = o; binary = false })) same in
    subst (λ ls. AreWatched clauses ls (set pairs number (Some (pair_of o next)))) (sym all)
    (subst (λ y. AreWatched clauses (moved_lists lists f next place w y) (set pairs number (Some (pair_of o next)))) here
    (subst (λ n. AreWatched clauses (moved_lists lists f next place w (new_watch w o)) (set pairs n (Some (pair_of o next)))) same
    (moved_watched clauses lists pairs f o next place w p c m)))

pub moved_list : (lists mid new : List (List Watch)) (f next : Signed ℕ) (place : ℕ) (x r w : Watch) → slot_of f < length lists → slot_of next ≢ slot_of f
    → mid ≡ set lists (slot_of next) (list_at lists (slot_of next) ++ x ∷ []) → slice_get (list_at mid (slot_of f)) place ≡ Some r → new ≡ set mid (slot_of f) (swap_remove (list_at mid (slot_of f)) place r)
    → slice_get (list_at lists (slot_of f)) place ≡ Some w → list_at new (slot_of f) ≡ swap_remove (list_at lists (slot_of f)) place w
moved_list lists mid new f next place x r w inside apart first at second here =
    let more = list_at lists (slot_of next) ++ x ∷ [] in
    let kept : list_at mid (slot_of f) ≡ list_at lists (slot_of f) = ap (λ ls. list_at ls (slot_of f)) first ∙ get_or-set_other lists (slot_of next) (slot_of f) more [] (λ e. apart (sym e)) in
    let is : r ≡ w = same_Some r w (sym at ∙ ap (λ xs. slice_get xs place) kept ∙ here) in
    let size : length mid ≡ length lists = ap length first ∙ length-set lists (slot_of next) more in
    ap (λ ls. list_at ls (slot_of f)) second ∙ get_or-set_same mid (slot_of f) (swap_remove (list_at mid (slot_of f)) place r) [] (omega (arith, inside, size))
    ∙ ap (λ xs. swap_remove xs place r) kept ∙ ap (swap_remove (list_at lists (slot_of f)) place) is

-- another blocker
pub blocker_put : (clauses : List (Option (List (Signed ℕ)))) (lists : List (List Watch)) (pairs : List (Option WatchedPair)) (j place : ℕ) (w w' : Watch) → AreWatched clauses lists pairs → j < length lists
    → slice_get (list_at lists j) place ≡ Some w → w'.number ≡ w.number → ((c : List (Signed ℕ)) → clause_number clauses w'.number ≡ Some c → IsBlocker c j w') → AreWatched clauses (set lists j (set (list_at lists j) place w')) pairs
blocker_put clauses lists pairs j place w w' h inside at same has = record {
  blockers = λ k x c here e. by_slot k x c here e;
  counted = λ k n. by_count k n;
  of_clauses = h.of_clauses;
}
  where
    here_list : list_at (set lists j (set (list_at lists j) place w')) j ≡ set (list_at lists j) place w'
    here_list = get_or-set_same lists j (set (list_at lists j) place w') [] inside

    by_slot : (k : ℕ) (x : Watch) (c : List (Signed ℕ)) → Contains (list_at (set lists j (set (list_at lists j) place w')) k) x → clause_number clauses x.number ≡ Some c → IsBlocker c k x
    by_slot k x c here e = elim (cases_eq k j) [
      | inl eq ↦
          let in_set = subst (λ xs. Contains xs x) here_list (subst (λ i. Contains (list_at (set lists j (set (list_at lists j) place w')) i) x) eq here) in
          elim (contains_set (list_at lists j) place w' x in_set) [
            | inl old ↦ subst (λ i. IsBlocker c i x) (sym eq) (h.blockers j x c old e)
            | inr new ↦ subst (λ (y : Watch). IsBlocker c k y) (sym new) (subst (λ i. IsBlocker c i w') (sym eq) (has c (ap (λ (y : Watch). clause_number clauses y.number) (sym new) ∙ e)))
          ]
      | inr other ↦ h.blockers k x c (subst (λ xs. Contains xs x) (get_or-set_other lists j k (set (list_at lists j) place w') [] other) here) e
    ]

    by_count : (k n : ℕ) → times n (list_at (set lists j (set (list_at lists j) place w')) k) ≡ due (pair_at pairs n) k
    by_count k n = elim (cases_eq k j) [
      | inl eq ↦
          let f : Watch → ℕ = λ x. one_if (x.number == n) in
          let here : get_or (list_at lists j) place w ≡ w = get_or_from_slice_get (list_at lists j) place w w at in
          let sums : sum_by f (set (list_at lists j) place w') + f (get_or (list_at lists j) place w) ≡ sum_by f (list_at lists j) + f w' = sum_by-set f (list_at lists j) place w' w (slice_get_within (list_at lists j) place w at) in
          let less : f (get_or (list_at lists j) place w) ≡ f w' = ap f here ∙ ap (λ m. one_if (m == n)) (sym same) in
          let now : times n (set (list_at lists j) place w') ≡ times n (list_at lists j) = omega (arith, sums, less) in
          ap (λ i. times n (list_at (set lists j (set (list_at lists j) place w')) i)) eq ∙ ap (times n) here_list ∙ now ∙ h.counted j n ∙ ap (due (pair_at pairs n)) (sym eq)
      | inr other ↦ ap (times n) (get_or-set_other lists j k (set (list_at lists j) place w') [] other) ∙ h.counted k n
    ]

-- the numbers of the list stay
pub numbers_put : (lists : List (List Watch)) (j place : ℕ) (w w' : Watch) → j < length lists → slice_get (list_at lists j) place ≡ Some w → w'.number ≡ w.number
    → map (λ (x : Watch). x.number) (list_at (set lists j (set (list_at lists j) place w')) j) ≡ map (λ (x : Watch). x.number) (list_at lists j)
numbers_put lists j place w w' inside at same =
    let f : Watch → ℕ = λ x. x.number in
    ap (map f) (get_or-set_same lists j (set (list_at lists j) place w') [] inside)
    ∙ map-set_same f (list_at lists j) place w' w (same ∙ ap f (sym (get_or_from_slice_get (list_at lists j) place w w at)))

pub pair_at_push : (pairs : List (Option WatchedPair)) (k : ℕ) → pair_at (pairs ++ None ∷ []) k ≡ pair_at pairs k
pair_at_push [] zero = refl
pair_at_push [] (suc k) = refl
pair_at_push (x ∷ xs) zero = refl
pair_at_push (x ∷ xs) (suc k) = pair_at_push xs k
