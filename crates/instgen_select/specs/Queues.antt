-- The queue as the list of its numbers with their sizes, in the order in which they were put, and what a pick takes of it.
use Rattle.std.specs.Prelude.{◌≡◌, ◌≤◌, ◌<◌, ◌⊎◌, ℕ, List, ◌++◌, ◌∷◌, [], Bool, map, All, MatchBool}

-- a number and its size
abbrev pub Waiting : Type 0
Waiting = ℕ × ℕ

pub record Waiting_list : Type 0 where
  pub items : List Waiting
  pub even : Bool  -- the next pick that gives a number is the second, fourth, ..
  pub spent : Bool

abbrev pub numbers : List Waiting → List ℕ
numbers xs = map (λ (x : Waiting). x.0) xs

-- x comes no later than y by size, and by number where the sizes are equal
abbrev pub IsNoLarger : Waiting → Waiting → Type 0
IsNoLarger x y = (x.1 < y.1) ⊎ ((x.1 ≡ y.1) × (x.0 ≤ y.0))

-- The number is taken out of the list, and all others stay in their order. It is the first of the list in an even pick, and
-- the least by size and number in an odd one.
pub record IsPicked (even : Bool) (old new : List Waiting) (number : ℕ) : Type 0 where
  pub size : ℕ
  pub front : List Waiting
  pub back : List Waiting
  pub before : old ≡ front ++ (number, size) ∷ back
  pub after : new ≡ front ++ back
  pub turn : MatchBool even (front ≡ []) (All (IsNoLarger (number, size)) old)

pub record Turn_list : Type 0 where
  pub items : List Waiting
  pub spent : Bool

-- the number is taken out of the list, and all others stay in their order
pub record IsTakenOut (old new : List Waiting) (number : ℕ) : Type 0 where
  pub size : ℕ
  pub front : List Waiting
  pub back : List Waiting
  pub before : old ≡ front ++ (number, size) ∷ back
  pub after : new ≡ front ++ back
