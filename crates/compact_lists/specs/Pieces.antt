-- A list that is cut into pieces at the places where they end.
use Rattle.std.specs.Prelude.{◌≡◌, ◌≤◌, ℕ, zero, suc, List, [], ◌∷◌, slice_range, slice_index}

-- where piece i begins, if the first begins at from: where the one before it ends
abbrev pub start_at : ℕ → List ℕ → ℕ → ℕ
start_at from ends zero = from
start_at from ends (suc i) = slice_index ends i

-- the ends rise from `from`, and the last of them is n
abbrev pub AreEnds : ℕ → List ℕ → ℕ → Type 0
AreEnds from [] n = from ≡ n
AreEnds from (end ∷ ends) n = (from ≤ end) × AreEnds end ends n

-- the pieces that end there, of which the first begins at from
abbrev pub cuts : {X : Type 0} → List X → ℕ → List ℕ → List (List X)
cuts xs from [] = []
cuts xs from (end ∷ ends) = slice_range xs from end ∷ cuts xs end ends
