-- What is kept by atom.
use Rattle.std.specs.Prelude.{ℕ, List, Option}
use Rattle.cdcl_trail.specs.declared.entry.Entry.{Entry}

-- for each atom its entry, if it has a value, and the place of its literal, which counts only then
pub record EntriesByAtom : Type 0 where
  pub items : List (Option Entry)
  pub places : List ℕ
