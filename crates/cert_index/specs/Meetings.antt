-- Which members cannot meet, and lists that lead through those that may.
use Rattle.std.specs.Prelude.{◌≢◌, ℕ, suc, ◌<◌, ◌≤◌, List, [], ◌∷◌, length}
use Rattle.inst_logic.specs.Unifiers.{Sided, IsUnifier}
use Rattle.inst_calculus.specs.Models.{SelectedClause}
use Rattle.cert_format.specs.Certificate.{Saturation}
use Rattle.cert_format.specs.Validity.{SelectsAt}

-- where the selected literals of the members with these numbers have opposite signs, they have no unifier
abbrev pub IsApart : Saturation → ℕ → ℕ → Type 0
IsApart c left right = (m n : SelectedClause) → SelectsAt c left m → SelectsAt c right n → m.selected.positive ≢ n.selected.positive → (u : Sided) → ¬ IsUnifier u m.selected.atom n.selected.atom

-- From place `from` on, counted from 0, all members but those at the places of the list, which rises, are apart from the one at
-- place i.
abbrev pub LeadsOn : Saturation → ℕ → ℕ → List ℕ → Type 0
LeadsOn c i from [] = (k : ℕ) → from ≤ k → k < length c.base.members → IsApart c (suc i) (suc k)
LeadsOn c i from (j ∷ js) = (from ≤ j) × (j < length c.base.members) × ((k : ℕ) → from ≤ k → k < j → IsApart c (suc i) (suc k)) × LeadsOn c i (suc j) js
