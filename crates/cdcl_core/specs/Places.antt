-- Places that wait.
use Rattle.std.specs.Prelude.{◌≡◌, ◌⊎◌, ℕ, ◌<◌, List, Contains}

-- the last place below the limit was taken out, and with it those from the limit on
pub record IsTaken (limit : ℕ) (old new : List ℕ) (place : ℕ) : Type 0 where
  pub below : place < limit
  pub here : Contains old place
  pub others : (k : ℕ) → k < limit → Contains old k → (k ≡ place) ⊎ ((k < place) × Contains new k)
  pub rest : (k : ℕ) → Contains new k → Contains old k
