-- What an interrupted write leaves.
use Rattle.std.specs.Prelude.{ℕ, ◌≡◌, ◌≢◌, List, [], ◌++◌, Option}
use Rattle.std.specs.Io.KnownBytes.{Appends}

-- known bytes grow by a prefix of bs that is not the whole
abbrev pub AppendsProperPrefix : Option (List ℕ) → Option (List ℕ) → List ℕ → Type 0
AppendsProperPrefix old new bs =
    (front : List ℕ) × (rest : List ℕ) × (bs ≡ front ++ rest) × (rest ≢ []) × Appends old new front
