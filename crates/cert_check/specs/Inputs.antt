-- What an origin from the inputs gives.
use Rattle.std.specs.Prelude.{◌≡◌, ℕ, List, Some}
use Rattle.inst_logic.specs.Clauses.{TreeClause, canonical_form}
use Rattle.inst_logic.specs.Derivations.{at_number}

-- there is clause k, and its canonical form is the clause
abbrev pub GivesInput : List TreeClause → ℕ → TreeClause → Type 0
GivesInput ds k c = (d : TreeClause) × (at_number ds k ≡ Some d) × (c ≡ canonical_form d)
