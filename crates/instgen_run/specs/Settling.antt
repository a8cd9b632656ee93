-- Choosing again after a solve: what it needs and changes.
use Rattle.std.specs.Prelude.{◌≡◌, ℕ, ◌<◌, ◌≤◌, ◌++◌, ◌∷◌, [], List, length, map, Bool, true, false, All}
use Rattle.inst_logic.specs.declared.signed.Signed.{Signed}
use Rattle.inst_logic.specs.Truth.{IsTrueClause}
use Rattle.prop_logic.specs.Literal.{AllAtomsBelow}
use Rattle.prop_logic.specs.Valuation.{IsHeld}
use Rattle.term_bank.specs.Forest.{Forest}
use Rattle.term_index.specs.Pairs.{Posting}
use Rattle.instgen_select.specs.Queues.{numbers}
use Rattle.instgen_run.specs.declared.state.Run.{Run}
use Rattle.instgen_run.specs.declared.queue.Partners.{Partners}
use Rattle.instgen_run.specs.Clauses.{Item}
use Rattle.instgen_run.specs.Loops.{items, IsConsistent, ArePartners}
use Rattle.instgen_run.specs.Choosing.{AreNumbersPlaced}
use Rattle.instgen_run.specs.Running.{IsRunningFor}
use Rattle.instgen_run.specs.Selections.{AreUsers}
use Rattle.instgen_run.specs.Solves.{IsTruePlace}
use Rattle.inst_logic.specs.Clauses.{TreeClause}
use Rattle.instgen_run.specs.Tended.{AreTended}

-- each clause of numbers has as many literals as its entry, and is true by the bits; its atoms have lists of users
pub record AreSelectable {S I C : Type 0} (r : Run S I C) (bits : List Bool) : Type 0 where
  pub lengths : map (λ (c : List (Signed ℕ)). length c) r.ground.literals ≡ map (λ (e : Item). length e.0) (items r)
  pub hold : All (IsTrueClause (IsHeld bits)) r.ground.literals
  pub below : AllAtomsBelow (length r.selection.users) r.ground.literals
  pub placed : AreNumbersPlaced r.selection

-- the run and its indexes fit each other, and what is indexed is worked
pub record IsOrderly {S I C : Type 0} (atoms : S → ℕ) (pairs : I → List Posting) (fits : Forest → I → Type 0) (r : Run S I C) (p : Partners I C) : Type 0 where
  pub safe : IsConsistent atoms pairs fits r
  pub partners : ArePartners pairs fits r p
  pub tended : AreTended pairs r p

-- The solver has the clauses of numbers, which have as many literals as the entries, over numbered atoms; what has a place is
-- true by the last valuation, which has no more bits than there are atoms.
pub record IsGrounded {S I C : Type 0} (added : S → List (List (Signed ℕ))) (r : Run S I C) : Type 0 where
  pub lengths : map (λ (c : List (Signed ℕ)). length c) r.ground.literals ≡ map (λ (e : Item). length e.0) (items r)
  pub given : added r.ground.solver ≡ r.ground.literals
  pub below : AllAtomsBelow (length r.ground.abstraction.ids) r.ground.literals
  pub width : length r.ground.valuation ≤ length r.ground.abstraction.ids
  pub true_places : (i : ℕ) → i < length r.selection.places → IsTruePlace r.ground.literals r.selection.places r.ground.valuation i

-- the run of some clauses and some budget
abbrev pub IsSomeRun : {S I C : Type 0} → (S → ℕ) → (S → List (List (Signed ℕ))) → Run S I C → Type 0
IsSomeRun atoms added r = (cs : List TreeClause) × (budget : ℕ) × IsRunningFor atoms added r cs budget

-- entries choose again and wait again; the rest is as it was
pub record Reselects {S I C : Type 0} (old new : Run S I C) : Type 0 where
  pub rest : new ≡ record old { selection = new.selection; queue = new.queue }
  pub count : length new.selection.places ≡ length old.selection.places
  pub users : length new.selection.users ≡ length old.selection.users

-- each entry has a place, of a literal that is true by the bits, and those that chose again wait again; the rest is as it was
pub record Settles {S I C : Type 0} (old new : Run S I C) (bits : List Bool) : Type 0 where
  pub rest : new ≡ record old { selection = new.selection; queue = new.queue }
  pub whole : length new.selection.places ≡ length (items old)
  pub users : AreUsers old.ground.literals new.selection
  pub true_places : (i : ℕ) → i < length new.selection.places → IsTruePlace old.ground.literals new.selection.places bits i

-- where the entry was removed from its index it waits again, and else nothing is different
abbrev pub Requeues : {S I C : Type 0} → Run S I C → Run S I C → ℕ → Bool → Type 0
Requeues old new n true = (new ≡ record old { queue = new.queue }) × (numbers new.queue.items ≡ numbers old.queue.items ++ n ∷ [])
Requeues old new n false = new ≡ old
