-- What a solve changes.
use Rattle.std.specs.Prelude.{◌≡◌, ℕ, ◌<◌, ◌≤◌, List, map, length, Bool, Some, slice_get}
use Rattle.inst_logic.specs.declared.signed.Signed.{Signed}
use Rattle.term_bank.specs.Forest.{AreIds, tree_at}
use Rattle.engine_laws.specs.Valuations.{AreFlips}
use Rattle.ground_abs.specs.Abstracts.{atoms_in}
use Rattle.instgen_select.specs.Choices.{IsTrueAt}
use Rattle.instgen_run.specs.declared.state.Run.{Run}
use Rattle.instgen_run.specs.Logs.{with_solve}
use Rattle.instgen_run.specs.Loops.{items}

-- the literal at the place of entry i, counted from 0, is true by the bits
pub record IsTruePlace (literals : List (List (Signed ℕ))) (places : List ℕ) (bits : List Bool) (i : ℕ) : Type 0 where
  pub clause : List (Signed ℕ)
  pub place : ℕ
  pub clause_at : slice_get literals i ≡ Some clause
  pub place_at : slice_get places i ≡ Some place
  pub holds : IsTrueAt clause bits place

-- the flips are in the log, the bits are the valuation, and what has a place has a true one; the entries, what is held back and
-- what is left are as they were
pub record Solves {S I C : Type 0} (atoms : S → ℕ) (added : S → List (List (Signed ℕ))) (old new : Run S I C) (flips : List ℕ) : Type 0 where
  pub ids : AreIds old.entries.bank flips
  pub changes : AreFlips (atoms_in old.entries.bank old.ground.abstraction.ids) old.ground.valuation new.ground.valuation (map (tree_at old.entries.bank) flips)
  pub log : new.log ≡ with_solve old.log flips (length (items old))
  pub width : length new.ground.valuation ≤ length old.ground.abstraction.ids
  pub numbering : new.ground.abstraction ≡ old.ground.abstraction
  pub literals : new.ground.literals ≡ old.ground.literals
  pub atoms_same : atoms new.ground.solver ≡ atoms old.ground.solver
  pub added_same : added new.ground.solver ≡ added old.ground.solver
  pub entries : new.entries ≡ old.entries
  pub held : new.held.items ≡ old.held.items
  pub left : new.left ≡ old.left
  pub within : length new.selection.places ≤ length (items old)
  pub placed : (i : ℕ) → i < length new.selection.places → IsTruePlace old.ground.literals new.selection.places new.ground.valuation i

-- entry i, counted from 0, has a literal that is true by the bits
abbrev pub IsTrueEntry : List (List (Signed ℕ)) → List Bool → ℕ → Type 0
IsTrueEntry literals bits i = (clause : List (Signed ℕ)) × (slice_get literals i ≡ Some clause) × (p : ℕ) × IsTrueAt clause bits p
