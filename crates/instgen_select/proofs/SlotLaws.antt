-- Slots with an item put in or taken out, and the heap that names them.
use Rattle.std.proofs.Common.{IfSome, IfNone, ◌≡◌, ◌⊎◌, inl, inr, refl, sym, ap, ◌∙◌, subst, ℕ, zero, suc, ◌<◌, ◌≤◌, List, [], ◌∷◌, ◌++◌, Option, None, Some, true, false, All, Contains, IsPermutation, length, slice_set, arith}
use native.Mathlib.Decide.{dec_lt}
use Rattle.std.proofs.lemmas.Bool.Decides.{nat_tests}
use Rattle.std.proofs.lemmas.List.Elements.{All-nil, All-cons}
use Rattle.std.proofs.lemmas.List.Sorted.{Contains-permutation, IsPermutation-sym}
use Rattle.std.specs.BinaryHeap.{IsHeap, IsUpperBound, KeepsHeap}
use Rattle.std.specs.Ordering.{nat_cmp, ordering_then, is_lt}
use Rattle.std.specs.declared.cmp.Ordering.{Ordering}
use Rattle.std.specs.declared.cmp.Ordering.TheVariants.{Less, Equal, Greater}
use Rattle.instgen_select.specs.declared.slots.Item.{Item}
use Rattle.instgen_select.specs.Queues.{Waiting, IsNoLarger, IsPicked}
use Rattle.instgen_select.specs.Slots.{waiting, waiting_of, IsAt, IsTakenAt, AreGapsBefore, AreGaps, IsOldestTaken, IsLeastTaken, Ranked, ranked_cmp, IsRanking, AreSlots}

-- the slots with one more, which has the item
abbrev pub with_slot : List (Option Item) → Item → List (Option Item)
with_slot slots item = slice_set (slots ++ None ∷ []) (length slots) (Some item)

pub waiting_gap : (slots : List (Option Item)) → waiting_of (slots ++ None ∷ []) ≡ waiting_of slots
waiting_gap [] = refl
waiting_gap (None ∷ slots) = waiting_gap slots
waiting_gap (Some x ∷ slots) = ap (λ xs. waiting x ∷ xs) (waiting_gap slots)

pub waiting_put : (slots : List (Option Item)) (item : Item) → waiting_of (with_slot slots item) ≡ waiting_of slots ++ waiting item ∷ []
waiting_put [] item = refl
waiting_put (None ∷ slots) item = waiting_put slots item
waiting_put (Some x ∷ slots) item = ap (λ xs. waiting x ∷ xs) (waiting_put slots item)

pub at_gap : (slots : List (Option Item)) (k : ℕ) (x : Item) → IsAt (slots ++ None ∷ []) k x → IsAt slots k x
at_gap [] zero x e = absurd cc
at_gap [] (suc k) x e = absurd cc
at_gap (s ∷ slots) zero x e = e
at_gap (s ∷ slots) (suc k) x e = at_gap slots k x e

length_gap : (slots : List (Option Item)) → length (slots ++ None ∷ []) ≡ suc (length slots)
length_gap [] = refl
length_gap (s ∷ slots) = ap suc (length_gap slots)

length_put : (slots : List (Option Item)) (item : Item) → length (with_slot slots item) ≡ suc (length slots)
length_put [] item = refl
length_put (s ∷ slots) item = ap suc (length_put slots item)

pub at_put : (slots : List (Option Item)) (item : Item) (k : ℕ) (x : Item) → IsAt (with_slot slots item) k x → IsAt slots k x ⊎ ((k ≡ length slots) × (x ≡ item))
at_put [] item zero x e = inr (refl, cc)
at_put [] item (suc k) x e = absurd cc
at_put (s ∷ slots) item zero x e = inl e
at_put (s ∷ slots) item (suc k) x e = elim (at_put slots item k x e) [ inl a ↦ inl a | inr b ↦ inr (ap suc b.0, b.1) ]

at_below : (slots : List (Option Item)) (k : ℕ) (x : Item) → IsAt slots k x → k < length slots
at_below [] k x e = absurd cc
at_below (s ∷ slots) zero x e = omega arith
at_below (s ∷ slots) (suc k) x e = let h = at_below slots k x e in omega arith

length_taken : (slots : List (Option Item)) (k : ℕ) → length (slice_set slots k None) ≡ length slots
length_taken [] k = refl
length_taken (s ∷ slots) zero = refl
length_taken (s ∷ slots) (suc k) = ap suc (length_taken slots k)

-- what is left when one is taken was there, in another slot
pub at_taken : (slots : List (Option Item)) (k j : ℕ) (x : Item) → IsAt (slice_set slots k None) j x → IsAt slots j x × ¬ (j ≡ k)
at_taken [] k j x e = absurd cc
at_taken (s ∷ slots) zero zero x e = absurd cc
at_taken (s ∷ slots) zero (suc j) x e = (e, λ q. omega arith)
at_taken (s ∷ slots) (suc k) zero x e = (e, λ q. omega arith)
at_taken (s ∷ slots) (suc k) (suc j) x e = let h = at_taken slots k j x e in (h.0, λ q. h.1 (omega arith))

-- the list of what waits, split at a slot with an item
pub split_at : (slots : List (Option Item)) (k : ℕ) (x : Item) → IsAt slots k x
    → (front back : List Waiting) × (waiting_of slots ≡ front ++ waiting x ∷ back) × (waiting_of (slice_set slots k None) ≡ front ++ back) × (AreGapsBefore slots k → front ≡ [])
split_at [] k x e = absurd cc
split_at (None ∷ slots) zero x e = absurd cc
split_at (Some y ∷ slots) zero x e = let q : y ≡ x = cc in ([], waiting_of slots, ap (λ z. waiting z ∷ waiting_of slots) q, refl, λ g. refl)
split_at (None ∷ slots) (suc k) x e = let (front, back, p, q, r) = split_at slots k x e in (front, back, p, q, λ g. r (λ j z l t. g (suc j) z (omega arith) t))
split_at (Some y ∷ slots) (suc k) x e =
    let (front, back, p, q, r) = split_at slots k x e in
    (waiting y ∷ front, back, ap (λ xs. waiting y ∷ xs) p, ap (λ xs. waiting y ∷ xs) q, λ g. absurd (g 0 y (omega arith) refl))

pub no_items : (slots : List (Option Item)) → AreGaps slots → waiting_of slots ≡ []
no_items [] g = refl
no_items (None ∷ slots) g = no_items slots (λ j x e. g (suc j) x e)
no_items (Some y ∷ slots) g = absurd (g 0 y refl)

all_items : (P : Waiting → Type 0) (slots : List (Option Item)) → ((j : ℕ) (x : Item) → IsAt slots j x → P (waiting x)) → All P (waiting_of slots)
all_items P [] h = All-nil P
all_items P (None ∷ slots) h = all_items P slots (λ j x e. h (suc j) x e)
all_items P (Some y ∷ slots) h = All-cons P (waiting y) (waiting_of slots) (h 0 y refl) (all_items P slots (λ j x e. h (suc j) x e))

pub oldest_picked : (old new : List (Option Item)) (x : Item) → IsOldestTaken old new x → IsPicked true (waiting_of old) (waiting_of new) x.number
oldest_picked old new x (k, (e, q), g) =
    let (front, back, a, b, r) = split_at old k x e in
    record { size = x.size; front = front; back = back; before = a; after = ap waiting_of q ∙ b; turn = r g }

pub least_picked : (old new : List (Option Item)) (x : Item) → IsLeastTaken old new x → IsPicked false (waiting_of old) (waiting_of new) x.number
least_picked old new x (k, (e, q), g) =
    let (front, back, a, b, r) = split_at old k x e in
    record { size = x.size; front = front; back = back; before = a; after = ap waiting_of q ∙ b; turn = all_items (IsNoLarger (waiting x)) old g }

gaps_taken : (slots : List (Option Item)) (k front : ℕ) → AreGapsBefore slots front → AreGapsBefore (slice_set slots k None) front
gaps_taken slots k front g j x l e = let h = at_taken slots k j x e in g j x l h.0

ranking_taken : (slots : List (Option Item)) (k : ℕ) (heap : List Ranked) → IsRanking slots heap → IsRanking (slice_set slots k None) heap
ranking_taken slots k heap r = record {
  ordered = r.ordered;
  below = λ x c. let h = r.below x c in let e = length_taken slots k in omega arith;
  named = λ j x e. let h = at_taken slots k j x e in r.named j x h.0;
  exact = λ y x c e. let h = at_taken slots k y.0.2 x e in r.exact y x c h.0;
}

-- the heap after a pop
abbrev pub IsPopped : List Ranked → Ranked → List Ranked → Type 0
IsPopped heap x rest = IsPermutation heap (x ∷ rest)

in_rest : (x y : Ranked) (rest : List Ranked) → Contains (x ∷ rest) y → (x ≡ y) ⊎ Contains rest y
in_rest x y rest (zero, l, e) = inl e
in_rest x y rest (suc k, l, e) = inr (k, omega arith, e)

in_more : (x y : Ranked) (rest : List Ranked) → Contains rest y → Contains (x ∷ rest) y
in_more x y rest (k, l, e) = (suc k, omega arith, e)

here : (x : Ranked) (rest : List Ranked) → Contains (x ∷ rest) x
here x rest = (0, omega arith, refl)

-- what was popped names a gap
pub ranking_popped : (slots : List (Option Item)) (heap rest : List Ranked) (x : Ranked) → IsRanking slots heap → IsPopped heap x rest → IsHeap ranked_cmp rest
    → ((item : Item) → ¬ IsAt slots x.0.2 item) → IsRanking slots rest
ranking_popped slots heap rest x r p o n =
    let back : (y : Ranked) → Contains rest y → Contains heap y = λ y c. Contains-permutation (x ∷ rest) heap y (IsPermutation-sym heap (x ∷ rest) p) (in_more x y rest c) in
    record {
      ordered = o;
      below = λ y c. r.below y (back y c);
      named = λ k i e. let (y, c, q) = r.named k i e in elim (in_rest x y rest (Contains-permutation heap (x ∷ rest) y p c)) [ inl s ↦ absurd (n i (subst (λ j. IsAt slots j i) (sym (ap (λ (z : Ranked). z.0.2) s ∙ ap (λ (z : ℕ × ℕ × ℕ). z.2) q)) e)) | inr t ↦ (y, t, q) ];
      exact = λ y i c e. r.exact y i (back y c) e;
    }

pub ranking_popped_item : (slots : List (Option Item)) (heap rest : List Ranked) (x : Ranked) → IsRanking slots heap → IsPopped heap x rest → IsHeap ranked_cmp rest → IsRanking (slice_set slots x.0.2 None) rest
ranking_popped_item slots heap rest x r p o =
    ranking_popped (slice_set slots x.0.2 None) heap rest x (ranking_taken slots x.0.2 heap r) p o (λ i e. let h = at_taken slots x.0.2 x.0.2 i e in h.1 refl)

cmp_less : (a b : ℕ) → a < b → nat_cmp a b ≡ Less
cmp_less a b l = grind (arith, nat_tests)

cmp_equal : (a b : ℕ) → a ≡ b → nat_cmp a b ≡ Equal
cmp_equal a b l = grind (arith, nat_tests)

not_less : (a b : ℕ) → is_lt (nat_cmp a b) ≡ false → b ≤ a
not_less a b e = go (dec_lt a b)
  where
    go : Dec (a < b) → b ≤ a
    go (yes l) = let q = cmp_less a b l in absurd (let z : is_lt Less ≡ false = sym (ap is_lt q) ∙ e in cc)
    go (no l) = omega arith

first_decides : (a b : Ordering) → is_lt (ordering_then a b) ≡ false → is_lt a ≡ false
first_decides Less b e = e
first_decides Equal b e = refl
first_decides Greater b e = e

no_larger : (x y : Ranked) → is_lt (ranked_cmp x y) ≡ false → (x.0.0 < y.0.0) ⊎ ((x.0.0 ≡ y.0.0) × (x.0.1 ≤ y.0.1))
no_larger x y h = go (dec_lt x.0.0 y.0.0)
  where
    both : is_lt (ordering_then (nat_cmp y.0.0 x.0.0) (nat_cmp y.0.1 x.0.1)) ≡ false
    both = first_decides (ordering_then (nat_cmp y.0.0 x.0.0) (nat_cmp y.0.1 x.0.1)) (nat_cmp y.0.2 x.0.2) h

    sizes : x.0.0 ≤ y.0.0
    sizes = not_less y.0.0 x.0.0 (first_decides (nat_cmp y.0.0 x.0.0) (nat_cmp y.0.1 x.0.1) both)

    go : Dec (x.0.0 < y.0.0) → (x.0.0 < y.0.0) ⊎ ((x.0.0 ≡ y.0.0) × (x.0.1 ≤ y.0.1))
    go (yes l) = inl l
    go (no l) =
        let e : x.0.0 ≡ y.0.0 = let s = sizes in omega arith in
        let q : nat_cmp y.0.0 x.0.0 ≡ Equal = cmp_equal y.0.0 x.0.0 (sym e) in
        inr (e, not_less y.0.1 x.0.1 (subst (λ o. is_lt (ordering_then o (nat_cmp y.0.1 x.0.1)) ≡ false) q both))

bounded : (x y : Ranked) (heap : List Ranked) → IsUpperBound ranked_cmp x heap → Contains heap y → is_lt (ranked_cmp x y) ≡ false
bounded x y [] h (k, l, e) = absurd (omega arith)
bounded x y (z ∷ heap) h (zero, l, e) = subst (λ w. is_lt (ranked_cmp x w) ≡ false) e h.0
bounded x y (z ∷ heap) h (suc k, l, e) = bounded x y heap h.1 (k, omega arith, e)

-- what is popped first is the least of all items
pub least_taken : (slots new : List (Option Item)) (heap rest : List Ranked) (x : Ranked) (item : Item) → IsRanking slots heap → IsPopped heap x rest → IsUpperBound ranked_cmp x heap
    → IsTakenAt slots new x.0.2 item → IsLeastTaken slots new item
least_taken slots new heap rest x item r p u t = (x.0.2, t, λ j other e. go j other e (r.named j other e))
  where
    exact : (item.size ≡ x.0.0) × (item.number ≡ x.0.1)
    exact = r.exact x item (Contains-permutation (x ∷ rest) heap x (IsPermutation-sym heap (x ∷ rest) p) (here x rest)) t.0

    go : (j : ℕ) (other : Item) → IsAt slots j other → ((y : Ranked) × Contains heap y × (y.0 ≡ (other.size, other.number, j))) → IsNoLarger (waiting item) (waiting other)
    go j other e (y, c, q) =
        let s : y.0.0 ≡ other.size = ap (λ (z : ℕ × ℕ × ℕ). z.0) q in
        let n : y.0.1 ≡ other.number = ap (λ (z : ℕ × ℕ × ℕ). z.1) q in
        let (a, b) = exact in
        elim (no_larger x y (bounded x y heap u c)) [ inl l ↦ inl (omega (arith, l)) | inr m ↦ inr (omega (arith, m.0), omega (arith, m.1)) ]

pub slots_oldest : (old new : List (Option Item)) (front later : ℕ) (heap : List Ranked) (item : Item) → AreSlots old front heap → IsOldestTaken old new item → AreGapsBefore new later → later ≤ length new
    → AreSlots new later heap
slots_oldest old new front later heap item h (k, t, g) gaps l = record { ranking = subst (λ s. IsRanking s heap) (sym t.1) (ranking_taken old k heap h.ranking); gaps = gaps; within = l }

pub slots_least : (old new : List (Option Item)) (front : ℕ) (heap rest : List Ranked) (item : Item) → AreSlots old front heap → IsLeastTaken old new item → IsRanking new rest → AreSlots new front rest
slots_least old new front heap rest item h (k, t, g) r = record {
  ranking = r;
  gaps = subst (λ s. AreGapsBefore s front) (sym t.1) (gaps_taken old k front h.gaps);
  within = let f = h.within in let e = ap length t.1 in let d = length_taken old k in omega arith;
}

pub slots_gap : (slots : List (Option Item)) (front : ℕ) (heap : List Ranked) → AreSlots slots front heap → AreSlots (slots ++ None ∷ []) front heap
slots_gap slots front heap h = record {
  ranking = record {
    ordered = h.ranking.ordered;
    below = λ x c. let l = h.ranking.below x c in let e = length_gap slots in omega arith;
    named = λ k i e. h.ranking.named k i (at_gap slots k i e);
    exact = λ x i c e. h.ranking.exact x i c (at_gap slots x.0.2 i e);
  };
  gaps = λ j x l e. h.gaps j x l (at_gap slots j x e);
  within = let f = h.within in let e = length_gap slots in omega arith;
}

pub slots_put : (slots : List (Option Item)) (front : ℕ) (heap more : List Ranked) (x : Ranked) (item : Item) → AreSlots slots front heap → IsPermutation (x ∷ heap) more → KeepsHeap ranked_cmp heap more
    → x.0 ≡ (item.size, item.number, length slots) → AreSlots (with_slot slots item) front more
slots_put slots front heap more x item h p o q = record {
  ranking = record {
    ordered = o h.ranking.ordered;
    below = λ y c. below y (in_heap y c);
    named = λ k i e. elim (at_put slots item k i e) [ inl a ↦ (let (y, c, s) = h.ranking.named k i a in (y, Contains-permutation (x ∷ heap) more y p (in_more x y heap c), s)) | inr b ↦ (x, Contains-permutation (x ∷ heap) more x p (here x heap), q ∙ ap (λ (z : Item). (z.size, z.number, length slots)) (sym b.1) ∙ ap (λ n. (i.size, i.number, n)) (sym b.0)) ];
    exact = λ y i c e. exact y i (in_heap y c) (at_put slots item y.0.2 i e);
  };
  gaps = λ j i l e. elim (at_put slots item j i e) [ inl a ↦ h.gaps j i l a | inr b ↦ (let f = h.within in absurd (omega (arith, b.0))) ];
  within = let f = h.within in let e = length_put slots item in omega arith;
}
  where
    slot_of : x.0.2 ≡ length slots
    slot_of = ap (λ (z : ℕ × ℕ × ℕ). z.2) q

    in_heap : (y : Ranked) → Contains more y → (x ≡ y) ⊎ Contains heap y
    in_heap y c = in_rest x y heap (Contains-permutation more (x ∷ heap) y (IsPermutation-sym (x ∷ heap) more p) c)

    below : (y : Ranked) → (x ≡ y) ⊎ Contains heap y → y.0.2 < length (with_slot slots item)
    below y (inl e) = let a = ap (λ (z : Ranked). z.0.2) e in let b = slot_of in let c = length_put slots item in omega arith
    below y (inr c) = let a = h.ranking.below y c in let d = length_put slots item in omega arith

    exact : (y : Ranked) (i : Item) → (x ≡ y) ⊎ Contains heap y → IsAt slots y.0.2 i ⊎ ((y.0.2 ≡ length slots) × (i ≡ item)) → (i.size ≡ y.0.0) × (i.number ≡ y.0.1)
    exact y i (inr c) (inl a) = h.ranking.exact y i c a
    exact y i (inr c) (inr b) = let l = h.ranking.below y c in absurd (omega (arith, b.0))
    exact y i (inl e) (inl a) = let l = at_below slots y.0.2 i a in let s = ap (λ (z : Ranked). z.0.2) e in let t = slot_of in absurd (omega arith)
    exact y i (inl e) (inr b) = (
      ap (λ (z : Item). z.size) b.1 ∙ sym (ap (λ (z : ℕ × ℕ × ℕ). z.0) q) ∙ ap (λ (z : Ranked). z.0.0) e,
      ap (λ (z : Item). z.number) b.1 ∙ sym (ap (λ (z : ℕ × ℕ × ℕ). z.1) q) ∙ ap (λ (z : Ranked). z.0.1) e,
    )

-- what each step of the code gives, whatever it answers

pub gap_stored : (slots later : List (Option Item)) (front : ℕ) (heap more : List Ranked) → AreSlots slots front heap → later ≡ slots ++ None ∷ [] → more ≡ heap → AreSlots later front more
gap_stored slots later front heap more h e q = subst (λ s. AreSlots s front more) (sym e) (subst (AreSlots (slots ++ None ∷ []) front) (sym q) (slots_gap slots front heap h))

pub item_stored : (slots later : List (Option Item)) (front place : ℕ) (heap more : List Ranked) (x : Ranked) (item : Item) → AreSlots slots front heap → later ≡ slots ++ None ∷ [] → place ≡ length slots
    → IsPermutation (x ∷ heap) more → KeepsHeap ranked_cmp heap more → x.0 ≡ (item.size, item.number, place) → AreSlots (slice_set later place (Some item)) front more
item_stored slots later front place heap more x item h e l p o q =
    subst (λ s. AreSlots (slice_set s place (Some item)) front more) (sym e)
    (subst (λ n. AreSlots (slice_set (slots ++ None ∷ []) n (Some item)) front more) (sym l)
    (slots_put slots front heap more x item h p o (q ∙ ap (λ n. (item.size, item.number, n)) l)))

pub item_waits : (slots later : List (Option Item)) (place : ℕ) (item : Item) → later ≡ slots ++ None ∷ [] → place ≡ length slots → waiting_of (slice_set later place (Some item)) ≡ waiting_of slots ++ waiting item ∷ []
item_waits slots later place item e l = ap (λ s. waiting_of (slice_set s place (Some item))) e ∙ ap (λ n. waiting_of (slice_set (slots ++ None ∷ []) n (Some item))) l ∙ waiting_put slots item

pub least_some : (o : Option Item) (slots new initial : List (Option Item)) (heap rest : List Ranked) (x : Ranked) → slots ≡ initial → IsRanking slots heap → IsPopped heap x rest
    → (IsHeap ranked_cmp heap → IsHeap ranked_cmp rest × IsUpperBound ranked_cmp x heap) → IfSome o (λ item. IsTakenAt slots new x.0.2 item) → IfSome o (λ item. IsLeastTaken initial new item)
least_some None slots new initial heap rest x s r p o t = tt
least_some (Some item) slots new initial heap rest x s r p o t =
    subst (λ z. IsLeastTaken z new item) s (least_taken slots new heap rest x item r p (o r.ordered).1 t)

pub ranking_after : (o : Option Item) (slots new : List (Option Item)) (heap rest : List Ranked) (x : Ranked) → IsRanking slots heap → IsPopped heap x rest
    → (IsHeap ranked_cmp heap → IsHeap ranked_cmp rest × IsUpperBound ranked_cmp x heap) → IfSome o (λ item. IsTakenAt slots new x.0.2 item)
    → IfNone o ((new ≡ slots) × ((item : Item) → ¬ IsAt slots x.0.2 item)) → IsRanking new rest
ranking_after None slots new heap rest x r p o t n =
    subst (λ z. IsRanking z rest) (sym n.0) (ranking_popped slots heap rest x r p (o r.ordered).0 n.1)
ranking_after (Some item) slots new heap rest x r p o t n =
    subst (λ z. IsRanking z rest) (sym t.1) (ranking_popped_item slots heap rest x r p (o r.ordered).0)

pub slots_after_oldest : (o : Option Item) (old new : List (Option Item)) (front later : ℕ) (heap : List Ranked) → AreSlots old front heap → IfSome o (λ x. IsOldestTaken old new x)
    → IfNone o ((new ≡ old) × AreGaps old) → AreGapsBefore new later → later ≤ length new → AreSlots new later heap
slots_after_oldest None old new front later heap h s n g l = record { ranking = subst (λ z. IsRanking z heap) (sym n.0) h.ranking; gaps = g; within = l }
slots_after_oldest (Some x) old new front later heap h s n g l = slots_oldest old new front later heap x h s g l

pub slots_after_least : (o : Option Item) (old new : List (Option Item)) (front : ℕ) (heap rest : List Ranked) → AreSlots old front heap → IfSome o (λ x. IsLeastTaken old new x)
    → IfNone o ((new ≡ old) × AreGaps old) → IsRanking new rest → AreSlots new front rest
slots_after_least None old new front heap rest h s n r = record {
  ranking = r;
  gaps = subst (λ z. AreGapsBefore z front) (sym n.0) h.gaps;
  within = subst (λ z. front ≤ length z) (sym n.0) h.within;
}
slots_after_least (Some x) old new front heap rest h s n r = slots_least old new front heap rest x h s r

pub some_oldest : (o : Option Item) (old new : List (Option Item)) → IfSome o (λ x. IsOldestTaken old new x) → IfSome o (λ x. IsPicked true (waiting_of old) (waiting_of new) x.number)
some_oldest None old new s = tt
some_oldest (Some x) old new s = oldest_picked old new x s

pub some_least : (o : Option Item) (old new : List (Option Item)) → IfSome o (λ x. IsLeastTaken old new x) → IfSome o (λ x. IsPicked false (waiting_of old) (waiting_of new) x.number)
some_least None old new s = tt
some_least (Some x) old new s = least_picked old new x s

pub none_waits : (o : Option Item) (old new : List (Option Item)) → IfNone o ((new ≡ old) × AreGaps old) → IfNone o ((waiting_of old ≡ []) × (waiting_of new ≡ waiting_of old))
none_waits None old new n = (no_items old n.1, ap waiting_of n.0)
none_waits (Some x) old new n = tt

-- an empty heap names no item
pub nothing_waits : (slots : List (Option Item)) (heap : List Ranked) → length heap ≡ 0 → IsRanking slots heap → waiting_of slots ≡ []
nothing_waits slots [] e r = no_items slots (λ j item at. let (x, (k, l, p), q) = r.named j item at in omega (arith, l))
nothing_waits slots (x ∷ heap) e r = absurd (omega (arith, e))
