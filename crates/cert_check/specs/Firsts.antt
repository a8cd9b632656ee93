-- The first number for which a fact does not hold.
use Rattle.std.specs.Prelude.{ℕ, ◌<◌, Option, None, Some}

pub record IsFirstWrong (P : ℕ → Type 0) (n : ℕ) : Type 0 where
  pub applies : ¬ P n
  pub before : (m : ℕ) → m < n → P m

-- that number, and None where the fact holds for all numbers
abbrev pub IsFirstWrongOf : (ℕ → Type 0) → Option ℕ → Type 0
IsFirstWrongOf P None = (n : ℕ) → P n
IsFirstWrongOf P (Some n) = IsFirstWrong P n
