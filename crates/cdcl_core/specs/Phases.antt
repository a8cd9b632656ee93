-- The values that atoms had last.
use Rattle.std.specs.Prelude.{◌≡◌, ◌≤◌, List, Bool, take, length, Some, All, slice_get}
use Rattle.cdcl_trail.specs.declared.entry.Entry.{Entry}
use Rattle.cdcl_trail.specs.Trail.{Trail}
use Rattle.cdcl_core.specs.declared.phases.Phases.{Phases}

-- the entry's value is saved
abbrev pub IsSaved : List Bool → Entry → Type 0
IsSaved values e = slice_get values e.lit.atom ≡ Some e.lit.positive

-- each atom has a value, and the first entries have theirs
pub record ArePhases (t : Trail) (p : Phases) : Type 0 where
  pub size : length p.values ≡ t.atoms
  pub within : p.saved ≤ length t.entries
  pub saved : All (IsSaved p.values) (take p.saved t.entries)
