-- Heaps that name slots.
use Rattle.std.specs.Prelude.{◌≡◌, ℕ, List, Option, Contains}
use Rattle.std.specs.BinaryHeap.{heap_items}
use Rattle.std.specs.declared.cmp.Reverse.{Reverse}
use Rattle.instgen_select.specs.declared.slots.Item.{Item}
use Rattle.instgen_select.specs.declared.turns.Heaps.{Heaps}
use Rattle.instgen_select.specs.Slots.{IsAt, IsTakenAt}

-- three keys and the place of a slot
abbrev pub Placed : Type 0
Placed = Reverse (ℕ × ℕ × ℕ × ℕ)

-- the heap names slot k
abbrev pub IsNamed : List Placed → ℕ → Type 0
IsNamed heap k = (x : Placed) × Contains heap x × (x.0.3 ≡ k)

-- each heap does
abbrev pub AreNamed : Heaps → ℕ → Type 0
AreNamed heaps k = IsNamed (heap_items heaps.latest) k × IsNamed (heap_items heaps.newest) k × IsNamed (heap_items heaps.least) k

-- each slot with an item is named; what else is named are gaps
abbrev pub IsNaming : List (Option Item) → List Placed → Type 0
IsNaming slots heap = (k : ℕ) (item : Item) → IsAt slots k item → IsNamed heap k

abbrev pub AreNaming : List (Option Item) → Heaps → Type 0
AreNaming slots heaps = (k : ℕ) (item : Item) → IsAt slots k item → AreNamed heaps k

-- the item is taken out of its slot
abbrev pub IsOneTaken : List (Option Item) → List (Option Item) → Item → Type 0
IsOneTaken old new item = (k : ℕ) × IsTakenAt old new k item
