-- The first pair of numbers for which a fact does not hold.
use Rattle.std.specs.Prelude.{ℕ, ◌<◌, Option, None, Some}

-- pairs are ordered by the left number and then the right
pub record IsFirstWrongPair (P : ℕ → ℕ → Type 0) (left right : ℕ) : Type 0 where
  pub applies : ¬ P left right
  pub before : (l : ℕ) → l < left → (r : ℕ) → P l r
  pub beside : (r : ℕ) → r < right → P left r

-- that pair, and None where the fact holds for all
abbrev pub IsFirstWrongPairOf : (ℕ → ℕ → Type 0) → Option (ℕ × ℕ) → Type 0
IsFirstWrongPairOf P None = (l r : ℕ) → P l r
IsFirstWrongPairOf P (Some p) = IsFirstWrongPair P p.0 p.1
