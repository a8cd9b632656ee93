-- What each call keeps of the attached clauses.
use Rattle.std.proofs.Common.{◌≡◌, ℕ, ◌+◌, ◌<◌, ◌≤◌, Bool, true, inl, inr, List, [], ◌∷◌, ◌++◌, length, take, get_or, Option, Some, None, refl, sym, ap, ◌∙◌, subst, arith}
use Rattle.std.specs.Prelude.{All, Contains}
use Rattle.std.proofs.lemmas.List.{length_push, length-take}
use Rattle.std.proofs.lemmas.List.Elements.{All-weaker, All-contains, Contains-push, Contains-append_left, Contains-push_cases}
use Rattle.std.proofs.lemmas.Option.{none-some}
use Rattle.std.proofs.lemmas.Bool.{cases_eq}
use Rattle.inst_logic.specs.declared.signed.Signed.{Signed}
use Rattle.prop_logic.proofs.ListLaws.{take_of_append, take_of_take, take_whole, slice_get-Contains, All-from_contained, Contains-take}
use Rattle.cdcl_trail.specs.Arena.{AreCopies}
use Rattle.cdcl_trail.specs.Attached.{Watching, WatchedTrail, head_at, IsSettledTo, AreAttached}
use Rattle.cdcl_trail.specs.Clauses.{clause_number, AddsClause}
use Rattle.cdcl_trail.specs.Loose.{AreLoose}
use Rattle.cdcl_trail.specs.Running.{at_level, IsRunning, Runs}
use Rattle.cdcl_trail.specs.Trail.{Trail, IsTrail, entries_up_to, with_atom, with_decision, with_implied, back_at}
use Rattle.cdcl_trail.specs.Values.{entries_of}
use Rattle.cdcl_trail.specs.Watch.{list_at, times, due, pair_at}
use Rattle.cdcl_trail.specs.Watching.{IsTrueAt, IsSettled}
use Rattle.cdcl_trail.specs.declared.entry.Entry.{Entry}
use Rattle.cdcl_trail.specs.declared.values.Values.{Values}
use Rattle.cdcl_trail.specs.declared.watch.Head.{Head}
use Rattle.cdcl_trail.specs.declared.watch.WatchedPair.{WatchedPair}
use Rattle.cdcl_trail.specs.declared.watch.Watch.{Watch}
use Rattle.cdcl_trail.proofs.CopyLaws.{copies_added}
use Rattle.cdcl_trail.proofs.LevelLaws.{added_above, up_to_up_to, up_to_true, get_past, get_push, get_cut, get_within}
use Rattle.cdcl_trail.proofs.VisitLaws.{due_some, in_list}
use Rattle.cdcl_trail.proofs.ListRunLaws.{still_true}
use Rattle.cdcl_trail.proofs.PropagationLaws.{longer}
use Rattle.cdcl_trail.proofs.TrailRunLaws.{settled_more}
use Rattle.cdcl_trail.proofs.TrailLaws.{trail_of}
use Rattle.cdcl_trail.proofs.ValuesLaws.{up_to_all, up_to_less}

-- what is settled stays so where there are more entries
pub settled_to_more : (clauses : List (Option (List (Signed ℕ)))) (w : Watching) (es more : List Entry) (h : Head) → take (length es) more ≡ es → IsSettledTo clauses w es h → IsSettledTo clauses w more h
settled_to_more clauses w es more h kept s = record {
  settled = settled_more clauses w.pairs es more h.place kept s.place s.settled;
  seen = All-weaker (IsTrueAt clauses es) (IsTrueAt clauses more) (λ n t. still_true clauses es more n kept t) (take h.passed w.loose) s.seen;
  place = omega (arith, s.place, ap length kept, length-take (length es) more);
  passed = s.passed;
}

abbrev pub cdcl_trail : Trail → Watching → WatchedTrail
cdcl_trail t w = record { trail = t; watching = w }

-- all entries are of the present level or below
pub up_to_present : (t : Trail) (k : ℕ) → IsTrail t → t.level ≤ k → entries_up_to t.entries k ≡ t.entries
up_to_present t k is h = up_to_all t.entries k (All-weaker (λ (e : Entry). e.level ≤ t.level) (λ (e : Entry). e.level ≤ k) (λ e low. omega (arith, low, h)) t.entries is.levels)

pub head_present : (w : Watching) (k : ℕ) → length w.heads ≤ k → head_at w k ≡ w.head
head_present w k h = get_past w.heads k w.head h

pub settled_present : (t : Trail) (w : Watching) (clauses : List (Option (List (Signed ℕ)))) → IsTrail t → length w.heads ≡ t.level → AreAttached (cdcl_trail t w) clauses → IsSettledTo clauses w t.entries w.head
settled_present t w clauses is size a =
    subst (λ h. IsSettledTo clauses w t.entries h) (head_present w t.level (omega (arith, size)))
    (subst (λ es. IsSettledTo clauses w es (head_at w t.level)) (up_to_present t t.level is (omega arith)) (a.levels t.level (omega arith)))

-- a literal is decided, and a level opened: the head stays, and is kept for the level below
pub attached_decided : (t : Trail) (w : Watching) (l : Signed ℕ) (clauses : List (Option (List (Signed ℕ)))) → IsTrail t → IsTrail (with_decision t l) → length w.heads ≡ t.level → AreAttached (cdcl_trail t w) clauses
    → AreAttached (cdcl_trail (with_decision t l) (record w { heads = w.heads ++ w.head ∷ [] })) clauses
attached_decided t w l clauses is next size a = record {
  watched = a.watched;
  copies = a.copies;
  room = a.room;
  loose = a.loose;
  there = a.there;
  levels = λ k low. elim (cases_eq k (t.level + 1)) [
    | inl e ↦ at_new k e
    | inr n ↦ at_old k (omega (arith, low, n))
  ];
  rising = λ j k up low. elim (cases_eq k (t.level + 1)) [
    | inl e ↦ elim (cases_eq j (t.level + 1)) [
      | inl f ↦ omega (arith, ap (λ i. (head_at (record w { heads = w.heads ++ w.head ∷ [] }) i).passed) (f ∙ sym e))
      | inr n ↦
          let old = a.rising j t.level (omega (arith, up, low, e, n)) (omega arith) in
          let top : (head_at w t.level).passed ≡ w.head.passed = ap (λ (h : Head). h.passed) (head_present w t.level (omega (arith, size))) in
          let here : (head_at (record w { heads = w.heads ++ w.head ∷ [] }) k).passed ≡ w.head.passed = ap (λ (h : Head). h.passed) (same_head k ∙ head_present w k (omega (arith, size, e))) in
          let there : (head_at (record w { heads = w.heads ++ w.head ∷ [] }) j).passed ≡ (head_at w j).passed = ap (λ (h : Head). h.passed) (same_head j) in
          omega (arith, old, top, here, there)
    ]
    | inr n ↦
        let old = a.rising j k up (omega (arith, low, n)) in
        omega (arith, old, ap (λ (h : Head). h.passed) (same_head k), ap (λ (h : Head). h.passed) (same_head j))
  ];
}
  where
    same_head : (k : ℕ) → head_at (record w { heads = w.heads ++ w.head ∷ [] }) k ≡ head_at w k
    same_head k = get_push w.heads k w.head

    other : (es : List Entry) (h : Head) → IsSettledTo clauses w es h → IsSettledTo clauses (record w { heads = w.heads ++ w.head ∷ [] }) es h
    other es h s = record { settled = s.settled; seen = s.seen; place = s.place; passed = s.passed }

    at_old : (k : ℕ) → k ≤ t.level → IsSettledTo clauses (record w { heads = w.heads ++ w.head ∷ [] }) (entries_up_to (with_decision t l).entries k) (head_at (record w { heads = w.heads ++ w.head ∷ [] }) k)
    at_old k low =
        let y : Entry = record { lit = l; level = t.level + 1; reason = None } in
        let same : entries_up_to (t.entries ++ y ∷ []) k ≡ entries_up_to t.entries k = up_to_less t.entries y k (omega (arith, low)) in
        subst (λ h. IsSettledTo clauses (record w { heads = w.heads ++ w.head ∷ [] }) (entries_up_to (with_decision t l).entries k) h) (sym (same_head k))
        (subst (λ es. IsSettledTo clauses (record w { heads = w.heads ++ w.head ∷ [] }) es (head_at w k)) (sym same) (other (entries_up_to t.entries k) (head_at w k) (a.levels k low)))

    at_new : (k : ℕ) → k ≡ t.level + 1 → IsSettledTo clauses (record w { heads = w.heads ++ w.head ∷ [] }) (entries_up_to (with_decision t l).entries k) (head_at (record w { heads = w.heads ++ w.head ∷ [] }) k)
    at_new k e =
        let y : Entry = record { lit = l; level = t.level + 1; reason = None } in
        let kept : take (length t.entries) (t.entries ++ y ∷ []) ≡ t.entries = take_of_append t.entries (y ∷ []) (length t.entries) (omega arith) ∙ take_whole t.entries in
        let all : entries_up_to (t.entries ++ y ∷ []) k ≡ t.entries ++ y ∷ [] = up_to_present (with_decision t l) k next (omega (arith, e)) in
        subst (λ h. IsSettledTo clauses (record w { heads = w.heads ++ w.head ∷ [] }) (entries_up_to (with_decision t l).entries k) h) (sym (same_head k ∙ head_present w k (omega (arith, size, e))))
        (subst (λ es. IsSettledTo clauses (record w { heads = w.heads ++ w.head ∷ [] }) es w.head) (sym all)
        (other (t.entries ++ y ∷ []) w.head (settled_to_more clauses w t.entries (t.entries ++ y ∷ []) w.head kept (settled_present t w clauses is size a))))

-- a literal is implied
pub attached_implied : (t : Trail) (w : Watching) (l : Signed ℕ) (n : ℕ) (clauses : List (Option (List (Signed ℕ)))) → IsTrail t → IsTrail (with_implied t l n) → length w.heads ≡ t.level → AreAttached (cdcl_trail t w) clauses
    → AreAttached (cdcl_trail (with_implied t l n) w) clauses
attached_implied t w l n clauses is next size a = record {
  watched = a.watched;
  copies = a.copies;
  room = a.room;
  loose = a.loose;
  there = a.there;
  levels = λ k low. elim (cases_eq k t.level) [
    | inl e ↦ at_present k e
    | inr o ↦
        let y : Entry = record { lit = l; level = t.level; reason = Some n } in
        subst (λ es. IsSettledTo clauses w es (head_at w k)) (sym (up_to_less t.entries y k (omega (arith, low, o)))) (a.levels k low)
  ];
  rising = a.rising;
}
  where
    at_present : (k : ℕ) → k ≡ t.level → IsSettledTo clauses w (entries_up_to (with_implied t l n).entries k) (head_at w k)
    at_present k e =
        let y : Entry = record { lit = l; level = t.level; reason = Some n } in
        let kept : take (length t.entries) (t.entries ++ y ∷ []) ≡ t.entries = take_of_append t.entries (y ∷ []) (length t.entries) (omega arith) ∙ take_whole t.entries in
        let all : entries_up_to (t.entries ++ y ∷ []) k ≡ t.entries ++ y ∷ [] = up_to_present (with_implied t l n) k next (omega (arith, e)) in
        subst (λ h. IsSettledTo clauses w (entries_up_to (with_implied t l n).entries k) h) (sym (head_present w k (omega (arith, size, e))))
        (subst (λ es. IsSettledTo clauses w es w.head) (sym all) (settled_to_more clauses w t.entries (t.entries ++ y ∷ []) w.head kept (settled_present t w clauses is size a)))

-- levels are taken back: the head is the one that was kept for the level
pub attached_back : (t : Trail) (w : Watching) (n : ℕ) (clauses : List (Option (List (Signed ℕ)))) → n ≤ t.level → AreAttached (cdcl_trail t w) clauses
    → AreAttached (cdcl_trail (back_at t n) (record w { head = head_at w n; heads = take n w.heads })) clauses
attached_back t w n clauses h a = record {
  watched = a.watched;
  copies = a.copies;
  room = a.room;
  loose = a.loose;
  there = a.there;
  levels = λ k low.
      let s = a.levels k (omega (arith, low, h)) in
      let same : entries_up_to (entries_up_to t.entries n) k ≡ entries_up_to t.entries k = up_to_up_to t.entries k n low in
      subst (λ x. IsSettledTo clauses (record w { head = head_at w n; heads = take n w.heads }) (entries_up_to (entries_up_to t.entries n) k) x) (sym (same_head k low))
      (subst (λ es. IsSettledTo clauses (record w { head = head_at w n; heads = take n w.heads }) es (head_at w k)) (sym same) (record { settled = s.settled; seen = s.seen; place = s.place; passed = s.passed }));
  rising = λ j k up low.
      omega (arith, a.rising j k up (omega (arith, low, h)), ap (λ (x : Head). x.passed) (same_head k low), ap (λ (x : Head). x.passed) (same_head j (omega (arith, up, low))));
}
  where
    same_head : (k : ℕ) → k ≤ n → head_at (record w { head = head_at w n; heads = take n w.heads }) k ≡ head_at w k
    same_head k low = get_cut w.heads n k w.head low

-- propagation at the present level
pub attached_propagated : (v v' : Values) (level : ℕ) (lists lists' : List (List Watch)) (pairs pairs' : List (Option WatchedPair)) (copies copies' : List (Option (List (Signed ℕ)))) (loose loose' : List ℕ) (head head' : Head) (heads : List Head) (clauses : List (Option (List (Signed ℕ))))
    → length heads ≡ level → AreAttached (cdcl_trail (at_level level v) (record { lists = lists; pairs = pairs; copies = copies; loose = loose; head = head; heads = heads })) clauses
    → IsRunning clauses level v' lists' pairs' → Runs clauses level v pairs v' pairs' → AreLoose clauses (entries_of v') pairs' loose' head'.passed → take head.passed loose' ≡ take head.passed loose → head.passed ≤ head'.passed
    → head'.place ≤ length (entries_of v') → IsSettled clauses pairs' (entries_of v') head'.place → AreCopies clauses copies' pairs'
    → AreAttached (cdcl_trail (at_level level v') (record { lists = lists'; pairs = pairs'; copies = copies'; loose = loose'; head = head'; heads = heads })) clauses
attached_propagated v v' level lists lists' pairs pairs' copies copies' loose loose' head head' heads clauses size a r' runs are_loose front on low settled are_copies = record {
  watched = r'.watched;
  copies = are_copies;
  room = are_loose.room;
  loose = are_loose.all;
  there = are_loose.there;
  levels = λ k h. elim (cases_eq k level) [
    | inl e ↦ at_present k e
    | inr n ↦ at_lower k (omega (arith, h, n))
  ];
  rising = λ j k up h. elim (cases_eq k level) [
    | inl e ↦ elim (cases_eq j level) [
      | inl f ↦ omega (arith, ap (λ i. (get_or heads i head').passed) (f ∙ sym e))
      | inr n ↦
          let old = a.rising j level (omega (arith, up, h, n)) (omega arith) in
          let top : (get_or heads level head).passed ≡ head.passed = ap (λ (x : Head). x.passed) (get_past heads level head (omega (arith, size))) in
          let here : (get_or heads k head').passed ≡ head'.passed = ap (λ (x : Head). x.passed) (get_past heads k head' (omega (arith, size, e))) in
          let there : (get_or heads j head').passed ≡ (get_or heads j head).passed = ap (λ (x : Head). x.passed) (get_within heads j head' head (omega (arith, size, up, h, n))) in
          omega (arith, old, top, here, there, on)
    ]
    | inr n ↦
        let below : k < length heads = omega (arith, size, h, n) in
        let old = a.rising j k up h in
        omega (arith, old, ap (λ (x : Head). x.passed) (get_within heads k head' head below), ap (λ (x : Head). x.passed) (get_within heads j head' head (omega (arith, below, up))))
  ];
}
  where
    at_present : (k : ℕ) → k ≡ level → IsSettledTo clauses (record { lists = lists'; pairs = pairs'; copies = copies'; loose = loose'; head = head'; heads = heads }) (entries_up_to (entries_of v') k) (get_or heads k head')
    at_present k e =
        subst (λ x. IsSettledTo clauses (record { lists = lists'; pairs = pairs'; copies = copies'; loose = loose'; head = head'; heads = heads }) (entries_up_to (entries_of v') k) x) (sym (get_past heads k head' (omega (arith, size, e))))
        (subst (λ es. IsSettledTo clauses (record { lists = lists'; pairs = pairs'; copies = copies'; loose = loose'; head = head'; heads = heads }) es head') (sym (up_to_present (at_level level v') k r'.trail (omega (arith, e))))
        (record { settled = settled; seen = are_loose.seen; place = low; passed = are_loose.low }))

    at_lower : (k : ℕ) → k < level → IsSettledTo clauses (record { lists = lists'; pairs = pairs'; copies = copies'; loose = loose'; head = head'; heads = heads }) (entries_up_to (entries_of v') k) (get_or heads k head')
    at_lower k h =
        let x = get_or heads k head in
        let same : entries_up_to (entries_of v') k ≡ entries_up_to (entries_of v) k = added_above (entries_of v) (entries_of v') k runs.added.kept (λ i e up at. omega (arith, h, runs.added.at_level i e up at)) in
        let s = a.levels k (omega (arith, h)) in
        let up : x.passed ≤ head.passed = omega (arith, a.rising k level (omega (arith, h)) (omega arith), ap (λ (y : Head). y.passed) (get_past heads level head (omega (arith, size)))) in
        let first : take x.passed loose' ≡ take x.passed loose = sym (take_of_take loose' head.passed x.passed up) ∙ ap (take x.passed) front ∙ take_of_take loose head.passed x.passed up in
        subst (λ y. IsSettledTo clauses (record { lists = lists'; pairs = pairs'; copies = copies'; loose = loose'; head = head'; heads = heads }) (entries_up_to (entries_of v') k) y) (get_within heads k head head' (omega (arith, h, size)))
        (subst (λ es. IsSettledTo clauses (record { lists = lists'; pairs = pairs'; copies = copies'; loose = loose'; head = head'; heads = heads }) es x) (sym same)
        (record {
          settled = runs.kept (entries_up_to (entries_of v) k) x.place (λ l c. up_to_true (entries_of v) k l c) s.settled;
          seen = subst (All (IsTrueAt clauses (entries_up_to (entries_of v) k))) (sym first) s.seen;
          place = s.place;
          passed = omega (arith, up, on, are_loose.low);
        }))

pub attached_as : (t t' : Trail) (w w' : Watching) (clauses : List (Option (List (Signed ℕ)))) → t' ≡ t → w' ≡ w → AreAttached (cdcl_trail t w) clauses → AreAttached (cdcl_trail t' w') clauses
attached_as t t' w w' clauses e f a = subst (λ x. AreAttached (cdcl_trail x w') clauses) (sym e) (subst (λ x. AreAttached (cdcl_trail t x) clauses) (sym f) a)

pub trail_as : (atoms level : ℕ) (entries : List Entry) (spent : Bool) (t : Trail) → atoms ≡ t.atoms → level ≡ t.level → entries ≡ t.entries → spent ≡ t.spent → trail_of atoms level entries spent ≡ t
trail_as atoms level entries spent t a l e s =
    ap (λ x. trail_of x level entries spent) a ∙ ap (λ x. trail_of t.atoms x entries spent) l ∙ ap (λ x. trail_of t.atoms t.level x spent) e ∙ ap (λ x. trail_of t.atoms t.level t.entries x) s

-- a trail that is spent
pub spent_trail : (t : Trail) → IsTrail t → IsTrail (trail_of t.atoms t.level t.entries true)
spent_trail t is = record { atoms_below = is.atoms_below; once = is.once; rising = is.rising; levels = is.levels; decided = is.decided; first = is.first; above = is.above }

-- one atom more
pub attached_grown : (t : Trail) (w : Watching) (clauses : List (Option (List (Signed ℕ)))) → AreAttached (cdcl_trail t w) clauses
    → AreAttached (cdcl_trail (with_atom t) (record w { lists = (w.lists ++ [] ∷ []) ++ [] ∷ [] })) clauses
attached_grown t w clauses a = record {
  watched = record {
    blockers = λ k x c has at. a.watched.blockers k x c (subst (λ xs. Contains xs x) (same k) has) at;
    counted = λ k n. ap (times n) (same k) ∙ a.watched.counted k n;
    of_clauses = a.watched.of_clauses;
  };
  copies = a.copies;
  room = a.room;
  loose = a.loose;
  there = a.there;
  levels = λ k low. let s = a.levels k low in record { settled = s.settled; seen = s.seen; place = s.place; passed = s.passed };
  rising = a.rising;
}
  where
    same : (k : ℕ) → list_at ((w.lists ++ [] ∷ []) ++ [] ∷ []) k ≡ list_at w.lists k
    same k = get_push (w.lists ++ [] ∷ []) k [] ∙ get_push w.lists k []

-- one clause more, which watches nothing yet
pub attached_added : (t : Trail) (w : Watching) (n : ℕ) (c : List (Signed ℕ)) (pairs : List (Option WatchedPair)) (before after : List (Option (List (Signed ℕ)))) → AddsClause before after c n → AreAttached (cdcl_trail t w) before
    → n < length pairs → ((k : ℕ) → pair_at pairs k ≡ pair_at w.pairs k) → length w.pairs ≤ length pairs → AreAttached (cdcl_trail t (record w { pairs = pairs; loose = w.loose ++ n ∷ [] })) after
attached_added t w n c pairs before after adds a longer kept size = record {
  watched = record {
    blockers = λ k x d has at. a.watched.blockers k x d has (sym (adds.others x.number (λ e. not_counted x.number e k x has refl)) ∙ at);
    counted = λ k m. a.watched.counted k m ∙ ap (λ o. due o k) (sym (kept m));
    of_clauses = λ m p e.
        let x = a.watched.of_clauses m p (sym (kept m) ∙ e) in
        record { clause = x.clause; here = adds.others m (λ f. none-some x.clause (sym adds.free ∙ ap (clause_number before) (sym f) ∙ x.here)) ∙ x.here; first = x.first; second = x.second; apart = x.apart };
  };
  copies = copies_added before after w.copies w.pairs pairs n c adds (λ m p e.
      let old : pair_at w.pairs m ≡ Some p = sym (kept m) ∙ e in
      let x = a.watched.of_clauses m p old in
      (λ f. none-some x.clause (sym adds.free ∙ ap (clause_number before) (sym f) ∙ x.here), old)) a.copies;
  room = λ m d at. elim (cases_eq m n) [
    | inl e ↦ omega (arith, e, longer)
    | inr e ↦ omega (arith, size, a.room m d (sym (adds.others m e) ∙ at))
  ];
  loose = λ m d at none. elim (cases_eq m n) [
    | inl e ↦ subst (Contains (w.loose ++ n ∷ [])) (sym e) (Contains-push w.loose n)
    | inr e ↦ Contains-append_left w.loose (n ∷ []) m (a.loose m d (sym (adds.others m e) ∙ at) (sym (kept m) ∙ none))
  ];
  there = λ m has none. elim (Contains-push_cases w.loose n m has) [
    | inl old ↦ a.there m old (sym (adds.others m (λ e. a.there m old (ap (clause_number before) e ∙ adds.free))) ∙ none)
    | inr new ↦ none-some c (sym none ∙ ap (clause_number after) (sym new) ∙ adds.added)
  ];
  levels = λ k low.
      let s = a.levels k low in
      let h = head_at w k in
      record {
        settled = λ m p g at watches falsified d here.
            let x = a.watched.of_clauses m p (sym (kept m) ∙ at) in
            s.settled m p g (sym (kept m) ∙ at) watches falsified d (sym (adds.others m (λ f. none-some x.clause (sym adds.free ∙ ap (clause_number before) (sym f) ∙ x.here))) ∙ here);
        seen = subst (All (IsTrueAt after (entries_up_to t.entries k))) (sym (take_of_append w.loose (n ∷ []) h.passed s.passed))
            (All-from_contained (IsTrueAt after (entries_up_to t.entries k)) (take h.passed w.loose) (λ m has d here.
            All-contains (IsTrueAt before (entries_up_to t.entries k)) (take h.passed w.loose) m s.seen has d
            (sym (adds.others m (λ e. a.there m (Contains-take w.loose h.passed m has) (ap (clause_number before) e ∙ adds.free))) ∙ here)));
        place = s.place;
        passed = omega (arith, s.passed, length_push w.loose n);
      };
  rising = a.rising;
}
  where
    -- no clause of this number stands in a list
    not_counted : (m : ℕ) → m ≡ n → (k : ℕ) (x : Watch) → Contains (list_at w.lists k) x → x.number ≡ m → ⊥
    not_counted m e k x has same =
        let at = slice_get-Contains (list_at w.lists k) x has in
        let some = due_some (pair_at w.pairs x.number) k (subst (λ i. 0 < i) (a.watched.counted k x.number) (in_list (list_at w.lists k) at.0 x at.1)) in
        let y = a.watched.of_clauses x.number some.0 some.1 in
        none-some y.clause (sym adds.free ∙ ap (clause_number before) (sym e ∙ sym same) ∙ y.here)
