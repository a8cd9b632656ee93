-- Entries with the same literal selected: what is covered for one of them is covered for the other.
use Rattle.std.specs.Prelude.{◌≡◌, ℕ, [], Option, Some}
use Rattle.inst_logic.specs.declared.signed.Signed.{Signed}
use Rattle.engine_laws.specs.Pairs.{IsWorked}
use Rattle.instgen_run.specs.declared.state.Run.{Run}
use Rattle.instgen_run.specs.Clauses.{entries_in}
use Rattle.instgen_run.specs.Loops.{items, held_of, IsSelectedLiteral}

-- what the first gives with the second is covered or held back
abbrev pub IsWorkedWith : {S I C : Type 0} → Run S I C → ℕ → ℕ → Type 0
IsWorkedWith r i j = IsWorked (entries_in r.entries.bank (items r)) r.selection.places (held_of r) i j

-- the same literal is selected in both
pub record AreAlike {S I C : Type 0} (r : Run S I C) (i j : ℕ) : Type 0 where
  pub literal : Signed ℕ
  pub first : IsSelectedLiteral r i literal
  pub second : IsSelectedLiteral r j literal

-- the other entry has the same literal selected, and nothing is held back
pub record IsDoneWith {S I C : Type 0} (r : Run S I C) (other : Option ℕ) (n : ℕ) : Type 0 where
  pub entry : ℕ
  pub is : other ≡ Some entry
  pub alike : AreAlike r entry n
  pub none_held : r.held.items ≡ []
