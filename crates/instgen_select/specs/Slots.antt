-- The slots of the queue: what was put, in order, with gaps where it was taken, and the heap that names slots.
use Rattle.std.specs.Prelude.{◌≡◌, ◌<◌, ◌≤◌, ℕ, List, [], ◌∷◌, Option, None, Some, Contains, length, slice_get, slice_set}
use Rattle.std.specs.BinaryHeap.{IsHeap}
use Rattle.std.specs.Ordering.{nat_cmp, ordering_then}
use Rattle.std.specs.declared.cmp.Ordering.{Ordering}
use Rattle.std.specs.declared.cmp.Reverse.{Reverse}
use Rattle.instgen_select.specs.declared.slots.Item.{Item}
use Rattle.instgen_select.specs.Queues.{Waiting, IsNoLarger}

abbrev pub waiting : Item → Waiting
waiting item = (item.number, item.size)

abbrev pub waiting_of : List (Option Item) → List Waiting
waiting_of [] = []
waiting_of (None ∷ slots) = waiting_of slots
waiting_of (Some item ∷ slots) = waiting item ∷ waiting_of slots

-- slot k has the item
abbrev pub IsAt : List (Option Item) → ℕ → Item → Type 0
IsAt slots k item = slice_get slots k ≡ Some (Some item)

-- the item is taken out of slot k
abbrev pub IsTakenAt : List (Option Item) → List (Option Item) → ℕ → Item → Type 0
IsTakenAt old new k item = IsAt old k item × (new ≡ slice_set old k None)

-- no slot before k has an item
abbrev pub AreGapsBefore : List (Option Item) → ℕ → Type 0
AreGapsBefore slots k = (j : ℕ) (item : Item) → j < k → ¬ IsAt slots j item

-- no slot has an item
abbrev pub AreGaps : List (Option Item) → Type 0
AreGaps slots = (j : ℕ) (item : Item) → ¬ IsAt slots j item

-- the first item is taken
abbrev pub IsOldestTaken : List (Option Item) → List (Option Item) → Item → Type 0
IsOldestTaken old new item = (k : ℕ) × IsTakenAt old new k item × AreGapsBefore old k

-- the least item by size and number is taken
abbrev pub IsLeastTaken : List (Option Item) → List (Option Item) → Item → Type 0
IsLeastTaken old new item = (k : ℕ) × IsTakenAt old new k item × ((j : ℕ) (other : Item) → IsAt old j other → IsNoLarger (waiting item) (waiting other))

-- a size, a number and the place of a slot
abbrev pub Ranked : Type 0
Ranked = Reverse (ℕ × ℕ × ℕ)

abbrev pub ranked_cmp : Ranked → Ranked → Ordering
ranked_cmp x y = ordering_then (ordering_then (nat_cmp y.0.0 x.0.0) (nat_cmp y.0.1 x.0.1)) (nat_cmp y.0.2 x.0.2)

-- Every item is in the heap with its slot. What else is in the heap names gaps.
pub record IsRanking (slots : List (Option Item)) (heap : List Ranked) : Type 0 where
  pub ordered : IsHeap ranked_cmp heap
  pub below : (x : Ranked) → Contains heap x → x.0.2 < length slots
  pub named : (k : ℕ) (item : Item) → IsAt slots k item → (x : Ranked) × Contains heap x × (x.0 ≡ (item.size, item.number, k))
  pub exact : (x : Ranked) (item : Item) → Contains heap x → IsAt slots x.0.2 item → (item.size ≡ x.0.0) × (item.number ≡ x.0.1)

pub record AreSlots (slots : List (Option Item)) (front : ℕ) (heap : List Ranked) : Type 0 where
  pub ranking : IsRanking slots heap
  pub gaps : AreGapsBefore slots front
  pub within : front ≤ length slots
