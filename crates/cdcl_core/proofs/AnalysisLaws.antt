-- The atoms that are seen (their marks) and counts, and one entry further back.
use Rattle.std.proofs.Common.{◌≡◌, ◌≢◌, ℕ, suc, zero, ◌+◌, ◌-◌, ◌^◌, ◌<◌, ◌≤◌, min, Bool, true, false, cond, ◌⊎◌, inl, inr, List, [], ◌∷◌, ◌++◌, length, map, take, set, get_or, replicate, Option, Some, None, IsPermutation, refl, sym, ap, ◌∙◌, subst, arith}
use Rattle.std.specs.Prelude.{All, AllPairs, Contains, slice_get, unwrap_or, ◌==◌, ◌&&◌}
use Rattle.std.proofs.lemmas.List.{get_or-set_same, get_or-set_other}
use Rattle.std.proofs.lemmas.List.Elements.{All-nil, All-cons, All-push, All-contains, All-weaker, Contains-push, Contains-push_cases, Contains-append_left}
use Rattle.std.proofs.lemmas.Option.{same_Some}
use Rattle.std.proofs.lemmas.List.Sorted.{Contains-permutation, IsPermutation-sym}
use Rattle.std.proofs.lemmas.Bool.{cases_eq, false≢true}
use Rattle.inst_logic.specs.declared.signed.Signed.{Signed}
use Rattle.inst_logic.specs.Signed.{complement}
use Rattle.inst_logic.specs.Derivations.{IsOnlyOutside}
use Rattle.inst_logic.proofs.Items.{contains_here, contains_there}
use Rattle.prop_logic.specs.declared.literal.Hint.{Hint}
use Rattle.prop_logic.specs.Literal.{cited}
use Rattle.prop_logic.specs.Analysis.{ClosesAll}
use Rattle.prop_logic.proofs.ListLaws.{All-from_contained, All-slice_get, Contains-slice_get, slice_get-Contains, slice_get_take, take_slice_get, Contains-take, Contains-take_more}
use Rattle.cdcl_trail.specs.declared.entry.Entry.{Entry}
use Rattle.cdcl_trail.specs.Trail.{Trail, IsTrail, IsUnset, IsPlaceOf, IsDecision, level_of}
use Rattle.cdcl_trail.specs.Propagation.{IsFalseIn, GivesUnit}
use Rattle.cdcl_core.specs.declared.log.Log.{Log}
use Rattle.cdcl_core.specs.declared.analysis.Waiting.{Waiting}
use Rattle.cdcl_core.specs.Analysis.{IsMarked, KeepsMarks, marked_count, AreCounted, AreWaiting, MarksToo, IsFree, Covers, ClosesFrom, IsFalseBelow, IsLearned, AreBelowFirst}
use Rattle.cdcl_core.specs.Places.{IsTaken}
use Rattle.cdcl_core.proofs.PlaceLaws.{here_or_rest}
use Rattle.cdcl_core.proofs.EntryLaws.{either_less, same_test, other_test, pairs_head, pairs_tail, pair_at, pair_before, take_item, before_or_here, here_too, of_false, to_false, consistent, same_entry, level_found}

-- one mark more
abbrev one : ℕ → List Bool → Entry → ℕ
one level marks e = cond (e.level == level && get_or marks e.lit.atom false) 1 0

bit_and_cases : (a b c : Bool) → a ≡ false → ◌≡◌ {A = ℕ} (cond (a && b) 1 0) (cond (a && c) 1 0)
bit_and_cases a b c e = ap (λ x. cond {A = ℕ} (x && b) 1 0) e ∙ sym (ap (λ x. cond {A = ℕ} (x && c) 1 0) e)

-- a mark on an atom of no entry of the level changes no count
count_same : (level : ℕ) (marks : List Bool) (a : ℕ) (es : List Entry) → ((e : Entry) → Contains es e → e.lit.atom ≡ a → e.level ≡ level → ⊥) → marked_count level (set marks a true) es ≡ marked_count level marks es
count_same level marks a [] h = refl
count_same level marks a (e ∷ es) h =
    let rest = count_same level marks a es (λ d c s. h d (suc c.0, omega (arith, c.1), c.2) s) in
    let here : one level (set marks a true) e ≡ one level marks e = elim (cases_eq e.lit.atom a) [
      | inl same ↦ bit_and_cases (e.level == level) (get_or (set marks a true) e.lit.atom false) (get_or marks e.lit.atom false) (other_test e.level level (h e (0, omega arith, refl) same))
      | inr other ↦ ap (λ b. cond (e.level == level && b) 1 0) (get_or-set_other marks a e.lit.atom true false other)
    ] in
    ap (λ n. n + marked_count level (set marks a true) es) here ∙ ap (λ n. one level marks e + n) rest

bit_low : (b : Bool) → cond b 1 0 ≤ 1
bit_low true = omega arith
bit_low false = omega arith

-- a mark more is one more at most
count_more : (level : ℕ) (marks : List Bool) (a i : ℕ) (es : List Entry) → AllPairs (λ x y. x.lit.atom ≢ y.lit.atom) es → marked_count level (set marks a true) (take i es) ≤ marked_count level marks (take i es) + 1
count_more level marks a zero [] once = omega arith
count_more level marks a (suc i) [] once = omega arith
count_more level marks a zero (e ∷ es) once = omega arith
count_more level marks a (suc i) (e ∷ es) once =
    elim (cases_eq e.lit.atom a) [
      | inl same ↦
          let rest = count_same level marks a (take i es) (λ d c s k. pairs_head (λ x y. x.lit.atom ≢ y.lit.atom) e es d once (Contains-take es i d c) (same ∙ sym s)) in
          let low = bit_low (e.level == level && get_or (set marks a true) e.lit.atom false) in
          omega (arith, rest, low)
      | inr other ↦
          let rest = count_more level marks a i es (pairs_tail (λ x y. x.lit.atom ≢ y.lit.atom) e es once) in
          let here : one level (set marks a true) e ≡ one level marks e = ap (λ b. cond (e.level == level && b) 1 0) (get_or-set_other marks a e.lit.atom true false other) in
          omega (arith, rest, here)
    ]

count_append : (level : ℕ) (marks : List Bool) (xs ys : List Entry) → marked_count level marks (xs ++ ys) ≡ marked_count level marks xs + marked_count level marks ys
count_append level marks [] ys = omega arith
count_append level marks (x ∷ xs) ys = omega (arith, count_append level marks xs ys)

count_item : (level : ℕ) (marks : List Bool) (es : List Entry) (i : ℕ) (e : Entry) → slice_get es i ≡ Some e → marked_count level marks (take (i + 1) es) ≡ marked_count level marks (take i es) + one level marks e
count_item level marks es i e at = omega (arith, ap (marked_count level marks) (take_item es i e at), count_append level marks (take i es) (e ∷ []))

-- a marked entry of the level is counted
one_marked : (level : ℕ) (marks : List Bool) (e : Entry) → e.level ≡ level → IsMarked marks e.lit.atom → one level marks e ≡ 1
one_marked level marks e here m = ap (λ b. cond (b && get_or marks e.lit.atom false) 1 0) (same_test e.level level here) ∙ ap (λ b. cond b 1 0) m

count_some : (level : ℕ) (marks : List Bool) (es : List Entry) (e : Entry) → Contains es e → e.level ≡ level → IsMarked marks e.lit.atom → 1 ≤ marked_count level marks es
count_some level marks [] e c here m = absurd (omega (arith, c.1))
count_some level marks (x ∷ xs) e (zero, h, s) here m = omega (arith, ap (one level marks) s, one_marked level marks e here m)
count_some level marks (x ∷ xs) e (suc k, h, s) here m = omega (arith, count_some level marks xs e (k, omega arith, s) here m)

-- fewer entries have fewer marked ones
count_fewer : (level : ℕ) (marks : List Bool) (es : List Entry) (i j : ℕ) → i ≤ j → marked_count level marks (take i es) ≤ marked_count level marks (take j es)
count_fewer level marks [] zero zero h = omega arith
count_fewer level marks [] zero (suc j) h = omega arith
count_fewer level marks [] (suc i) zero h = omega arith
count_fewer level marks [] (suc i) (suc j) h = omega arith
count_fewer level marks (e ∷ es) zero zero h = omega arith
count_fewer level marks (e ∷ es) zero (suc j) h = omega arith
count_fewer level marks (e ∷ es) (suc i) zero h = absurd (omega (arith, h))
count_fewer level marks (e ∷ es) (suc i) (suc j) h = omega (arith, count_fewer level marks es i j (omega (arith, h)))

count_length : (level : ℕ) (marks : List Bool) (es : List Entry) → marked_count level marks es ≤ length es
count_length level marks [] = omega arith
count_length level marks (e ∷ es) = omega (arith, count_length level marks es, bit_low (e.level == level && get_or marks e.lit.atom false))

take_short : {X : Type 0} (xs : List X) (i : ℕ) → length (take i xs) ≤ length xs
take_short [] zero = omega arith
take_short [] (suc i) = omega arith
take_short (x ∷ xs) zero = omega arith
take_short (x ∷ xs) (suc i) = omega (arith, take_short xs i)

level_is : (t : Trail) (e : Entry) (a : ℕ) → IsTrail t → Contains t.entries e → e.lit.atom ≡ a → unwrap_or (level_of t.entries a) 0 ≡ e.level
level_is t e a v c same = ap (λ o. unwrap_or o 0) (level_found t e a v c same)

-- a new mark at the present level
pub counted_present : (t : Trail) (i a : ℕ) (marks : List Bool) (was is : ℕ) → IsTrail t → length t.entries ≤ 2 ^ 64 - 1 → is ≡ min (was + 1) (2 ^ 64 - 1) → AreCounted t i marks was → AreCounted t i (set marks a true) is
counted_present t i a marks was is v room more c =
    let one_more = count_more t.level marks a i t.entries v.once in
    let short = count_length t.level (set marks a true) (take i t.entries) in
    let size = take_short t.entries i in
    omega (arith, one_more, short, size, more, c)

-- a new mark at another level
pub counted_other : (t : Trail) (i a : ℕ) (marks : List Bool) (n : ℕ) → IsTrail t → (unwrap_or (level_of t.entries a) 0 ≡ t.level → ⊥) → AreCounted t i marks n → AreCounted t i (set marks a true) n
counted_other t i a marks n v other c =
    let kept = count_same t.level marks a (take i t.entries) (λ e k s here. other (level_is t e a v (Contains-take t.entries i e k) s ∙ here)) in
    omega (arith, kept, c)

pub counted_met : (t : Trail) (i : ℕ) (e : Entry) (marks : List Bool) (was is : ℕ) → slice_get t.entries i ≡ Some e → IsMarked marks e.lit.atom → e.level ≡ t.level → is ≡ was - 1 → AreCounted t (i + 1) marks was → AreCounted t i marks is
counted_met t i e marks was is at m here less c = omega (arith, count_item t.level marks t.entries i e at, one_marked t.level marks e here m, less, c)

pub counted_fewer : (t : Trail) (i j : ℕ) (marks : List Bool) (n : ℕ) → i ≤ j → AreCounted t j marks n → AreCounted t i marks n
counted_fewer t i j marks n h c = omega (arith, count_fewer t.level marks t.entries i j h, c)

-- only one of the present level is left to be met
only_one : (t : Trail) (i : ℕ) (e d : Entry) (marks : List Bool) (n : ℕ) → slice_get t.entries i ≡ Some e → AreCounted t (i + 1) marks n → n ≤ 1 → IsMarked marks e.lit.atom → e.level ≡ t.level
    → Contains (take i t.entries) d → IsMarked marks d.lit.atom → d.level ≡ t.level → ⊥
only_one t i e d marks n at c low m here k too there =
    let some = count_some t.level marks (take i t.entries) d k there too in
    omega (arith, count_item t.level marks t.entries i e at, one_marked t.level marks e here m, some, c, low)

-- a mark more keeps the others
set_kept : (marks : List Bool) (a : ℕ) → a < length marks → KeepsMarks marks (set marks a true)
set_kept marks a h = λ b m.
    elim (cases_eq b a) [
      | inl same ↦ ap (λ c. get_or (set marks a true) c false) same ∙ get_or-set_same marks a true false h
      | inr other ↦ get_or-set_other marks a b true false other ∙ m
    ]

pub none_in : (n a : ℕ) → (IsMarked (replicate n false) a → ⊥)
none_in zero a m = false≢true m
none_in (suc n) zero m = false≢true m
none_in (suc n) (suc a) m = none_in n a m

-- what waits
same_place : (t : Trail) (i j : ℕ) (d e : Entry) → IsTrail t → slice_get t.entries i ≡ Some d → slice_get t.entries j ≡ Some e → d.lit.atom ≡ e.lit.atom → i ≡ j
same_place t i j d e v at there same =
    elim (cases_eq i j) [
      | inl equal ↦ equal
      | inr other ↦ elim (either_less i j other) [
        | inl low ↦ absurd (pair_at (λ x y. x.lit.atom ≢ y.lit.atom) t.entries i j d e v.once low at there same)
        | inr high ↦ absurd (pair_at (λ x y. x.lit.atom ≢ y.lit.atom) t.entries j i e d v.once high there at (sym same))
      ]
    ]

-- an atom is marked, and its place waits
pub waiting_more : (t : Trail) (i a p : ℕ) (marks : List Bool) (old new : List ℕ) → IsTrail t → IsPlaceOf t.entries a p → a < length marks → IsPermutation (p ∷ old) new → AreWaiting t i marks old → AreWaiting t i (set marks a true) new
waiting_more t i a p marks old new v place inside moved w = record {
  all = λ k e low at m. elim (cases_eq e.lit.atom a) [
    | inl same ↦ subst (Contains new) (same_place t p k place.0 e v place.1 at (place.2 ∙ sym same)) (Contains-permutation (p ∷ old) new p moved (contains_here p old))
    | inr other ↦ Contains-permutation (p ∷ old) new k moved (contains_there p k old (w.all k e low at (sym (get_or-set_other marks a e.lit.atom true false other) ∙ m)))
  ];
  marked = λ k e c at. elim (here_or_rest p k old (Contains-permutation new (p ∷ old) k (IsPermutation-sym (p ∷ old) new moved) c)) [
    | inl here ↦
        let same : place.0 ≡ e = same_Some place.0 e (sym place.1 ∙ ap (slice_get t.entries) (sym here) ∙ at) in
        subst (IsMarked (set marks a true)) (sym place.2 ∙ ap (λ x. x.lit.atom) same) (get_or-set_same marks a true false inside)
    | inr rest ↦ set_kept marks a inside e.lit.atom (w.marked k e rest at)
  ];
}

-- an atom without a value is marked
pub waiting_unset : (t : Trail) (i a : ℕ) (marks : List Bool) (places : List ℕ) → IsUnset t.entries a → a < length marks → AreWaiting t i marks places → AreWaiting t i (set marks a true) places
waiting_unset t i a marks places unset inside w = record {
  all = λ k e low at m. w.all k e low at (sym (get_or-set_other marks a e.lit.atom true false (All-slice_get (λ x. x.lit.atom ≢ a) t.entries unset k e at)) ∙ m);
  marked = λ k e c at. set_kept marks a inside e.lit.atom (w.marked k e c at);
}

pub waiting_none : (t : Trail) (i n : ℕ) → AreWaiting t i (replicate n false) []
waiting_none t i n = record {
  all = λ k e low at m. absurd (none_in n e.lit.atom m);
  marked = λ k e c at. absurd (omega (arith, c.1));
}

-- no marked entry is passed over
pub waiting_taken : (t : Trail) (limit p : ℕ) (marks : List Bool) (old new : List ℕ) → IsTaken limit old new p → AreWaiting t limit marks old → AreWaiting t p marks new
waiting_taken t limit p marks old new n w = record {
  all = λ k e low at m. elim (n.others k (omega (arith, low, n.below)) (w.all k e (omega (arith, low, n.below)) at m)) [
    | inl same ↦ absurd (omega (arith, low, same))
    | inr rest ↦ rest.1
  ];
  marked = λ k e c at. w.marked k e (n.rest k c) at;
}

pub covers_taken : (t : Trail) (limit p : ℕ) (marks : List Bool) (old new : List ℕ) (F : List (Signed ℕ)) → IsTaken limit old new p → AreWaiting t limit marks old → Covers (take (p + 1) t.entries) marks F → Covers (take limit t.entries) marks F
covers_taken t limit p marks old new F n w covers = λ e c m.
    let k = slice_get-Contains (take limit t.entries) e c in
    let g = slice_get_take t.entries limit k.0 e k.1 in
    let low : k.0 ≤ p = elim (n.others k.0 g.1 (w.all k.0 e g.1 g.0 m)) [ inl same ↦ omega (arith, same) | inr rest ↦ omega (arith, rest.0) ] in
    covers e (Contains-slice_get (take (p + 1) t.entries) k.0 e (take_slice_get t.entries (p + 1) k.0 e (omega (arith, low)) g.0)) m

-- none waits: no more is marked
pub covers_none : (t : Trail) (limit : ℕ) (marks : List Bool) (places : List ℕ) (F : List (Signed ℕ)) → ((k : ℕ) → k < limit → Contains places k → ⊥) → AreWaiting t limit marks places → Covers (take limit t.entries) marks F
covers_none t limit marks places F none w = λ e c m.
    let k = slice_get-Contains (take limit t.entries) e c in
    let g = slice_get_take t.entries limit k.0 e k.1 in
    absurd (none k.0 g.1 (w.all k.0 e g.1 g.0 m))

-- marks of a clause
pub marks_one : (t : Trail) (l : Signed ℕ) (marks : List Bool) (was is : Waiting) → l.atom < length marks → ((i : ℕ) → AreCounted t i marks was.present → AreCounted t i (set marks l.atom true) is.present)
    → ((i : ℕ) → AreWaiting t i marks was.places → AreWaiting t i (set marks l.atom true) is.places) → MarksToo t (l ∷ []) marks (set marks l.atom true) was is
marks_one t l marks was is h counted waiting =
    let new = set marks l.atom true in
    record { marked = All-cons (λ x. IsMarked new x.atom) l [] (get_or-set_same marks l.atom true false h) (All-nil (λ x. IsMarked new x.atom)); kept = set_kept marks l.atom h; counted = counted; waiting = waiting }

pub marks_more : (t : Trail) (c : List (Signed ℕ)) (l : Signed ℕ) (m0 m1 m2 : List Bool) (o0 o1 o2 : Waiting) → MarksToo t c m0 m1 o0 o1 → MarksToo t (l ∷ []) m1 m2 o1 o2 → MarksToo t (c ++ l ∷ []) m0 m2 o0 o2
marks_more t c l m0 m1 m2 o0 o1 o2 a b = record {
  marked = All-push (λ x. IsMarked m2 x.atom) c l (All-weaker (λ x. IsMarked m1 x.atom) (λ x. IsMarked m2 x.atom) (λ x m. b.kept x.atom m) c a.marked) (All-contains (λ x. IsMarked m2 x.atom) (l ∷ []) l b.marked (0, omega arith, refl));
  kept = λ x m. b.kept x (a.kept x m);
  counted = λ i k. b.counted i (a.counted i k);
  waiting = λ i w. b.waiting i (a.waiting i w);
}

-- one hint with one literal outside, and what is left
pub unit_step : (F c : List (Signed ℕ)) (l : Signed ℕ) (rest : List (Option (List (Signed ℕ)))) → IsOnlyOutside F c l → ClosesAll (F ++ complement l ∷ []) rest → ClosesAll F (Some c ∷ rest)
unit_step F c l [] one k = absurd k
unit_step F c l (h ∷ hs) one k = (l, one, k)

pub named_closes : (F c : List (Signed ℕ)) (o : Option (List (Signed ℕ))) → o ≡ Some c → All (Contains F) c → ClosesAll F (o ∷ [])
named_closes F c None e all = absurd cc
named_closes F c (Some d) e all = subst (λ x. All (Contains F) x) (sym (same_Some d c e)) all

-- one that stays
pub closes_kept : (log : Log) (whole entries : List Entry) (i : ℕ) (e : Entry) (marks : List Bool) (stay more : List (Signed ℕ) → Type 0) (hints : List Hint) → slice_get entries i ≡ Some e → ((F : List (Signed ℕ)) → more F → stay F × Contains F (complement e.lit))
    → ClosesFrom log whole (take (i + 1) entries) marks stay hints → ClosesFrom log whole (take i entries) marks more hints
closes_kept log whole entries i e marks stay more hints at has x = λ F none covers s.
    let h = has F s in
    x F none (λ d c m. elim (before_or_here entries i e d at c) [
      | inl old ↦ covers d old m
      | inr same ↦ subst (λ y. Contains F (complement y.lit)) same h.1
    ]) h.0

-- F with one literal more
pub free_more : (t : Trail) (whole : List Entry) (e : Entry) (F : List (Signed ℕ)) → IsTrail t → ((d : Entry) → Contains whole d → Contains t.entries d) → Contains t.entries e → IsFree whole F → IsFree whole (F ++ complement e.lit ∷ [])
free_more t whole e F v part ce none = λ d c k.
    elim (Contains-push_cases F (complement e.lit) d.lit k) [
      | inl old ↦ none d c old
      | inr new ↦ consistent t d e v (part d c) ce (sym new)
    ]

false_covered : (before : List Entry) (marks : List Bool) (F : List (Signed ℕ)) (l : Signed ℕ) → Covers before marks F → IsMarked marks l.atom → IsFalseIn before l → Contains F l
false_covered before marks F l covers m f =
    let d = of_false before l f in
    subst (Contains F) (sym d.2) (covers d.0 d.1 (subst (λ y. IsMarked marks y.atom) d.2 m))

-- one that its reason's clause takes the place of
pub closes_resolved : (log : Log) (t : Trail) (whole : List Entry) (i : ℕ) (e : Entry) (h : Hint) (c : List (Signed ℕ)) (marks new : List Bool) (stay less : List (Signed ℕ) → Type 0) (hints : List Hint)
    → IsTrail t → ((d : Entry) → Contains whole d → Contains t.entries d) → Contains whole e → slice_get t.entries i ≡ Some e → cited log.added log.steps h ≡ Some c → GivesUnit (take i t.entries) c e.lit
    → All (λ l. IsMarked new l.atom) c → KeepsMarks marks new → ((F : List (Signed ℕ)) → less F → stay (F ++ complement e.lit ∷ []))
    → ClosesFrom log whole (take (i + 1) t.entries) marks stay hints → ClosesFrom log whole (take i t.entries) new less (h ∷ hints)
closes_resolved log t whole i e h c marks new stay less hints v part ce at named unit all kept lower x = λ F none covers s.
    let before = take i t.entries in
    let more : List (Signed ℕ) = F ++ complement e.lit ∷ [] in
    let one : IsOnlyOutside F c e.lit = record {
      here = unit.here;
      outside = none e ce;
      others = All-from_contained (λ m. Contains F m ⊎ (m ≡ e.lit)) c (λ m k.
          elim (All-contains (λ y. IsFalseIn before y ⊎ (y ≡ e.lit)) c m unit.others k) [
            | inl f ↦ inl (false_covered before new F m covers (All-contains (λ y. IsMarked new y.atom) c m all k) f)
            | inr same ↦ inr same
          ]);
    } in
    let rest : ClosesAll more (map (cited log.added log.steps) hints) =
    x more (free_more t whole e F v part (part e ce) none)
    (λ d k m. elim (before_or_here t.entries i e d at k) [
      | inl old ↦ Contains-append_left F (complement e.lit ∷ []) (complement d.lit) (covers d old (kept d.lit.atom m))
      | inr same ↦ subst (λ y. Contains more (complement y.lit)) same (Contains-push F (complement e.lit))
    ]) (lower F s) in
    subst (λ o. ClosesAll F (o ∷ map (cited log.added log.steps) hints)) (sym named) (unit_step F c e.lit (map (cited log.added log.steps) hints) one rest)

-- before the first entry is met
pub closes_first : (log : Log) (whole before : List Entry) (h : Hint) (c : List (Signed ℕ)) (marks : List Bool) (stay : List (Signed ℕ) → Type 0) → cited log.added log.steps h ≡ Some c → All (λ l. IsMarked marks l.atom) c
    → ((F : List (Signed ℕ)) (l : Signed ℕ) → stay F → Contains c l → IsFalseIn before l ⊎ Contains F l) → ClosesFrom log whole before marks stay (h ∷ [])
closes_first log whole before h c marks stay named all has = λ F none covers s.
    named_closes F c (cited log.added log.steps h) named (All-from_contained (Contains F) c (λ l k.
    elim (has F l s k) [
      | inl f ↦ false_covered before marks F l covers (All-contains (λ y. IsMarked marks y.atom) c l all k) f
      | inr inside ↦ inside
    ]))

-- what is learned is free of the trail's literals
pub all_false : (entries : List Entry) (clause : List (Signed ℕ)) → IsLearned entries clause → All (IsFalseIn entries) clause
all_false entries [] h = All-nil (IsFalseIn entries)
all_false entries (l ∷ ls) h =
    All-cons (IsFalseIn entries) l ls (to_false entries h.0 l h.1 h.2)
    (All-weaker (IsFalseBelow entries h.0.level) (IsFalseIn entries) (λ m f. to_false entries f.0 m f.1 f.2) ls h.4)

pub learned_free : (t : Trail) (clause : List (Signed ℕ)) → IsTrail t → IsLearned t.entries clause → IsFree t.entries clause
learned_free t clause v h = λ e c k.
    let f = of_false t.entries e.lit (All-contains (IsFalseIn t.entries) clause e.lit (all_false t.entries clause h) k) in
    consistent t e f.0 v c f.1 f.2

-- the first literal that stays
pub learned_first : (t : Trail) (i : ℕ) (e : Entry) (marks : List Bool) → slice_get t.entries i ≡ Some e → 0 < e.level → IsLearned t.entries (complement e.lit ∷ [])
learned_first t i e marks at high = (e, Contains-slice_get t.entries i e at, refl, high, All-nil (IsFalseBelow t.entries e.level))

complement_same : (t : Trail) (e d : Entry) → IsTrail t → Contains t.entries e → Contains t.entries d → complement e.lit ≡ complement d.lit → e ≡ d
complement_same t e d v ce cd s = same_entry t e d v ce cd (ap (λ x. x.atom) s)

pub below_decided : (t : Trail) (i : ℕ) (e : Entry) (marks : List Bool) → IsTrail t → slice_get t.entries i ≡ Some e → IsDecision e → AreBelowFirst t.entries (take i t.entries) marks (complement e.lit ∷ [])
below_decided t i e marks v at chosen = λ f d cf s cd m.
    let same = complement_same t e f v (Contains-slice_get t.entries i e at) cf s in
    subst (λ y. d.level < y.level) same (pair_before (λ a b. IsDecision b → a.level < b.level) t.entries i d e v.first at cd chosen)

pub below_unique : (t : Trail) (i : ℕ) (e : Entry) (marks : List Bool) (n : ℕ) → IsTrail t → slice_get t.entries i ≡ Some e → IsMarked marks e.lit.atom → e.level ≡ t.level → n ≤ 1 → AreCounted t (i + 1) marks n → AreBelowFirst t.entries (take i t.entries) marks (complement e.lit ∷ [])
below_unique t i e marks n v at mark here low counted = λ f d cf s cd m.
    let same = complement_same t e f v (Contains-slice_get t.entries i e at) cf s in
    let up = pair_before (λ a b. a.level ≤ b.level) t.entries i d e v.rising at cd in
    let less : d.level < e.level = elim (cases_eq d.level t.level) [
      | inl too ↦ absurd (only_one t i e d marks n at counted low mark here cd m too)
      | inr other ↦ omega (arith, up, here, other)
    ] in
    subst (λ y. d.level < y.level) same less

-- one more that stays
pub learned_more : (t : Trail) (i : ℕ) (e : Entry) (marks : List Bool) (l : Signed ℕ) (ls : List (Signed ℕ)) → slice_get t.entries i ≡ Some e → IsMarked marks e.lit.atom → AreBelowFirst t.entries (take (i + 1) t.entries) marks (l ∷ ls) → IsLearned t.entries (l ∷ ls) → IsLearned t.entries (l ∷ ls ++ complement e.lit ∷ [])
learned_more t i e marks l ls at m first h = (
  h.0,
  h.1,
  h.2,
  h.3,
  All-push (IsFalseBelow t.entries h.0.level) ls (complement e.lit) h.4 (e, Contains-slice_get t.entries i e at, refl, first h.0 e h.1 h.2 (here_too t.entries i e at) m),
)

pub first_fewer : (entries : List Entry) (i j : ℕ) (marks : List Bool) (clause : List (Signed ℕ)) → i ≤ j → AreBelowFirst entries (take j entries) marks clause → AreBelowFirst entries (take i entries) marks clause
first_fewer entries i j marks [] low h = tt
first_fewer entries i j marks (l ∷ ls) low h = λ f d cf s cd m. h f d cf s (Contains-take_more entries i j d low cd) m

-- what its reason's clause marks is no higher than the entry, which was marked
pub first_resolved : (t : Trail) (i : ℕ) (e : Entry) (marks new : List Bool) (clause : List (Signed ℕ)) → IsTrail t → slice_get t.entries i ≡ Some e → IsMarked marks e.lit.atom → AreBelowFirst t.entries (take (i + 1) t.entries) marks clause → AreBelowFirst t.entries (take i t.entries) new clause
first_resolved t i e marks new [] v at mark h = tt
first_resolved t i e marks new (l ∷ ls) v at mark h = λ f d cf s cd m.
    let up = pair_before (λ a b. a.level ≤ b.level) t.entries i d e v.rising at cd in
    let low = h f e cf s (here_too t.entries i e at) mark in
    omega (arith, up, low)
