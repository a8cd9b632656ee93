-- Sub-lists of clauses, refuted or satisfiable with their own axioms of equality, and minimal cores.
use Rattle.std.specs.Prelude.{ℕ, ◌<◌, ◌≤◌, List, length, All, Any, EachIndex, filter_map, remove}
use Rattle.std.specs.List.Sorted.{IsStrictlyIncreasing}
use Rattle.inst_logic.specs.Clauses.{TreeClause, IsGround, IsInstance}
use Rattle.inst_logic.specs.Derivations.{at_number}
use Rattle.inst_logic.specs.Truth.{IsRefuted}
use Rattle.inst_calculus.specs.Axioms.{with_axioms}
use Rattle.inst_calculus.specs.Models.{SelectedClause, Makes}

-- the clauses at these places, which count from 1
abbrev pub clauses_at : List TreeClause → List ℕ → List TreeClause
clauses_at cs places = filter_map (at_number cs) places

-- finitely many ground instances of the clauses and their axioms are refuted
pub record HasRefutation (cs : List TreeClause) : Type 0 where
  pub grounds : List TreeClause
  pub instances : All (λ g. IsGround g × Any (IsInstance g) (with_axioms cs)) grounds
  pub refuted : IsRefuted grounds

-- a list with selected literals makes the clauses and their axioms true
pub record HasSelection (cs : List TreeClause) : Type 0 where
  pub members : List SelectedClause
  pub makes : All (Makes members) (with_axioms cs)

-- a rising list of places of the clauses
pub record ArePlaces (cs : List TreeClause) (places : List ℕ) : Type 0 where
  pub rising : IsStrictlyIncreasing places
  pub within : All (λ n. (0 < n) × (n ≤ length cs)) places

-- the clause at place i of the list can't be spared: without it the clauses are satisfiable
abbrev pub IsNeeded : List TreeClause → List ℕ → ℕ → Type 0
IsNeeded cs places i = HasSelection (clauses_at cs (remove places i))

-- a refuted sub-list of the clauses of which none can be spared
pub record IsCore (cs : List TreeClause) (places : List ℕ) : Type 0 where
  pub places_of : ArePlaces cs places
  pub refuted : HasRefutation (clauses_at cs places)
  pub needed : EachIndex places (IsNeeded cs places)

-- a refuted sub-list whose first places, so many as are done, can't be spared
pub record IsPartlyMinimal (cs : List TreeClause) (places : List ℕ) (done : ℕ) : Type 0 where
  pub places_of : ArePlaces cs places
  pub refuted : HasRefutation (clauses_at cs places)
  pub needed : (i : ℕ) → i < done → IsNeeded cs places i
  pub count : done ≤ length places
