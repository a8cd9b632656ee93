-- Hints that close.
use Rattle.std.specs.Prelude.{ℕ, List, [], ◌∷◌, Option}
use Rattle.inst_logic.specs.declared.signed.Signed.{Signed}
use Rattle.inst_logic.specs.Derivations.{Closes}

-- the hints, of which there is one at least, close from F
abbrev pub ClosesAll : List (Signed ℕ) → List (Option (List (Signed ℕ))) → Type 0
ClosesAll F [] = ⊥
ClosesAll F (h ∷ hints) = Closes F h hints
