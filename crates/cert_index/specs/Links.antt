-- Chains through items with numbers: from the first item of a number over the next ones in rising order.
use Rattle.std.specs.Prelude.{◌≡◌, ◌⊎◌, ℕ, suc, ◌<◌, ◌≤◌, List, length}
use Rattle.std.specs.List.{Contains}
use Rattle.cert_index.specs.declared.links.Links.{Links}
use Rattle.cert_index.specs.Buckets.{number_at}

-- from one place on, the first place with the number; or one past the end, where there is none
pub record IsNextOf (ns : List ℕ) (n from p : ℕ) : Type 0 where
  pub from_there : from ≤ p
  pub at : p < length ns → number_at ns p ≡ n
  pub before : (k : ℕ) → from ≤ k → k < p → k < length ns → ¬ (number_at ns k ≡ n)

-- from place i on
pub record AreLinked (ns first next : List ℕ) (i : ℕ) : Type 0 where
  pub next_length : length next ≡ length ns
  pub to_first : (n : ℕ) → n < length first → IsNextOf ns n i (number_at first n)
  pub to_next : (k : ℕ) → i ≤ k → k < length ns → IsNextOf ns (number_at ns k) (suc k) (number_at next k)

pub record IsLinked (l : Links) : Type 0 where
  pub linked : AreLinked l.numbers.items l.first.items l.next.items 0

-- the items with the number, from one place on and before another, were added, and no others before the first
pub record AreAdded (ns : List ℕ) (n from to : ℕ) (old new : List ℕ) : Type 0 where
  pub kept : (k : ℕ) → Contains old k → Contains new k
  pub added : (k : ℕ) → from ≤ k → k < to → k < length ns → number_at ns k ≡ n → Contains new k
  pub only : (k : ℕ) → Contains new k → Contains old k ⊎ ((from ≤ k) × (k < length ns))

-- item j was added, unless it stands before the place
pub record IsAddedFrom (from j : ℕ) (old new : List ℕ) : Type 0 where
  pub kept : (k : ℕ) → Contains old k → Contains new k
  pub added : from ≤ j → Contains new j
  pub only : (k : ℕ) → Contains new k → Contains old k ⊎ ((from ≤ k) × (k ≡ j))
