-- Heaps that name slots, as items are put in and taken out.
use Rattle.std.proofs.Common.{IfSome, IfNone, ◌≡◌, ◌⊎◌, inl, inr, refl, sym, ap, ◌∙◌, subst, ℕ, zero, suc, List, [], ◌∷◌, ◌++◌, Option, None, Some, Contains, IsPermutation, length, slice_set, arith}
use Rattle.std.proofs.lemmas.List.Sorted.{Contains-permutation}
use Rattle.std.specs.BinaryHeap.{heap_items}
use Rattle.instgen_select.specs.declared.slots.Item.{Item}
use Rattle.instgen_select.specs.declared.turns.Heaps.{Heaps}
use Rattle.instgen_select.specs.Queues.{IsTakenOut}
use Rattle.instgen_select.specs.Slots.{waiting_of, IsAt, IsTakenAt, AreGaps}
use Rattle.instgen_select.specs.Naming.{Placed, IsNamed, AreNamed, IsNaming, AreNaming, IsOneTaken}
use Rattle.instgen_select.proofs.SlotLaws.{at_gap, at_put, at_taken, split_at}

in_rest : (x y : Placed) (rest : List Placed) → Contains (x ∷ rest) y → (x ≡ y) ⊎ Contains rest y
in_rest x y rest (zero, l, e) = inl e
in_rest x y rest (suc k, l, e) = inr (k, omega arith, e)

in_more : (x y : Placed) (rest : List Placed) → Contains rest y → Contains (x ∷ rest) y
in_more x y rest (k, l, e) = (suc k, omega arith, e)

here : (x : Placed) (rest : List Placed) → Contains (x ∷ rest) x
here x rest = (0, omega arith, refl)

-- what is pushed is named, and what was stays
pub named_more : (x : Placed) (heap more : List Placed) → IsPermutation (x ∷ heap) more → (k : ℕ) → IsNamed heap k → IsNamed more k
named_more x heap more p k (y, c, e) = (y, Contains-permutation (x ∷ heap) more y p (in_more x y heap c), e)

pub named_now : (x : Placed) (heap more : List Placed) → IsPermutation (x ∷ heap) more → IsNamed more x.0.3
named_now x heap more p = (x, Contains-permutation (x ∷ heap) more x p (here x heap), refl)

pub none_named : (heap : List Placed) → length heap ≡ 0 → (k : ℕ) → ¬ IsNamed heap k
none_named [] e k (x, (i, l, p), q) = omega (arith, l)
none_named (y ∷ heap) e k h = omega (arith, e)

pub gap_named : (slots more : List (Option Item)) (old new : Heaps) → AreNaming slots old → more ≡ slots ++ None ∷ [] → ((k : ℕ) → AreNamed old k → AreNamed new k) → AreNaming more new
gap_named slots more old new h e kept = subst (λ s. AreNaming s new) (sym e) (λ k item at. kept k (h k item (at_gap slots k item at)))

pub item_named : (slots more : List (Option Item)) (old new : Heaps) (slot place : ℕ) (item : Item) → AreNaming slots old → more ≡ slots ++ None ∷ [] → slot ≡ length slots → place ≡ slot
    → ((k : ℕ) → AreNamed old k → AreNamed new k) → AreNamed new place → AreNaming (slice_set more slot (Some item)) new
item_named slots more old new slot place item h e l q kept named =
    subst (λ s. AreNaming (slice_set s slot (Some item)) new) (sym e)
    (subst (λ n. AreNaming (slice_set (slots ++ None ∷ []) n (Some item)) new) (sym l)
    (λ k i at. elim (at_put slots item k i at) [ inl a ↦ kept k (h k i a) | inr b ↦ subst (AreNamed new) (q ∙ l ∙ sym b.0) named ]))

-- what was popped is taken, or named a gap
pub naming_after : (o : Option Item) (mid new : List (Option Item)) (heap rest : List Placed) (x : Placed) → IsNaming mid heap → IsPermutation heap (x ∷ rest) → IfSome o (λ item. IsTakenAt mid new x.0.3 item)
    → IfNone o ((new ≡ mid) × ((item : Item) → ¬ IsAt mid x.0.3 item)) → IsNaming new rest
naming_after o mid new heap rest x h p some none k item at = go (h k item (was o some none)) (apart o some none)
  where
    was : (o : Option Item) → IfSome o (λ item. IsTakenAt mid new x.0.3 item) → IfNone o ((new ≡ mid) × ((item : Item) → ¬ IsAt mid x.0.3 item)) → IsAt mid k item
    was None s n = subst (λ z. IsAt z k item) n.0 at
    was (Some y) s n = (at_taken mid x.0.3 k item (subst (λ z. IsAt z k item) s.1 at)).0

    apart : (o : Option Item) → IfSome o (λ item. IsTakenAt mid new x.0.3 item) → IfNone o ((new ≡ mid) × ((item : Item) → ¬ IsAt mid x.0.3 item)) → ¬ (k ≡ x.0.3)
    apart None s n = λ e. n.1 item (subst (λ j. IsAt mid j item) e (subst (λ z. IsAt z k item) n.0 at))
    apart (Some y) s n = (at_taken mid x.0.3 k item (subst (λ z. IsAt z k item) s.1 at)).1

    go : IsNamed heap k → ¬ (k ≡ x.0.3) → IsNamed rest k
    go (y, c, e) far = elim (in_rest x y rest (Contains-permutation heap (x ∷ rest) y p c)) [ inl s ↦ absurd (far (sym e ∙ sym (ap (λ (z : Placed). z.0.3) s))) | inr t ↦ (y, t, e) ]

pub one_taken : (o : Option Item) (mid new start : List (Option Item)) (k : ℕ) → mid ≡ start → IfSome o (λ item. IsTakenAt mid new k item) → IfSome o (λ item. IsOneTaken start new item)
one_taken None mid new start k e s = tt
one_taken (Some y) mid new start k e s = (k, subst (λ z. IsTakenAt z new k y) e s)

pub all_gaps : (slots : List (Option Item)) (heap : List Placed) → length heap ≡ 0 → IsNaming slots heap → AreGaps slots
all_gaps slots heap e h = λ j item at. none_named heap e j (h j item at)

was_at : (o : Option Item) (old new : List (Option Item)) → IfSome o (λ item. IsOneTaken old new item) → IfNone o ((new ≡ old) × AreGaps old) → (k : ℕ) (item : Item) → IsAt new k item → IsAt old k item
was_at None old new s n k item at = subst (λ z. IsAt z k item) n.0 at
was_at (Some y) old new s n k item at = (at_taken old s.0 k item (subst (λ z. IsAt z k item) s.1.1 at)).0

module _ (o : Option Item) (old new : List (Option Item)) (heaps later : Heaps) (h : AreNaming old heaps) (some : IfSome o (λ item. IsOneTaken old new item)) (none : IfNone o ((new ≡ old) × AreGaps old)) where
  pub naming_latest : IsNaming new (heap_items later.latest) → later.newest ≡ heaps.newest → later.least ≡ heaps.least → AreNaming new later
  naming_latest mine e f = λ k item at. let g = h k item (was_at o old new some none k item at) in
      (mine k item at, subst (λ z. IsNamed (heap_items z) k) (sym e) g.1, subst (λ z. IsNamed (heap_items z) k) (sym f) g.2)

  pub naming_newest : IsNaming new (heap_items later.newest) → later.latest ≡ heaps.latest → later.least ≡ heaps.least → AreNaming new later
  naming_newest mine e f = λ k item at. let g = h k item (was_at o old new some none k item at) in
      (subst (λ z. IsNamed (heap_items z) k) (sym e) g.0, mine k item at, subst (λ z. IsNamed (heap_items z) k) (sym f) g.2)

  pub naming_least : IsNaming new (heap_items later.least) → later.latest ≡ heaps.latest → later.newest ≡ heaps.newest → AreNaming new later
  naming_least mine e f = λ k item at. let g = h k item (was_at o old new some none k item at) in
      (subst (λ z. IsNamed (heap_items z) k) (sym e) g.0, subst (λ z. IsNamed (heap_items z) k) (sym f) g.1, mine k item at)

pub some_taken : (o : Option Item) (old new : List (Option Item)) → IfSome o (λ item. IsOneTaken old new item) → IfSome o (λ item. IsTakenOut (waiting_of old) (waiting_of new) item.number)
some_taken None old new s = tt
some_taken (Some x) old new s =
    let (front, back, a, b, r) = split_at old s.0 x s.1.0 in
    record { size = x.size; front = front; back = back; before = a; after = ap waiting_of s.1.1 ∙ b }
