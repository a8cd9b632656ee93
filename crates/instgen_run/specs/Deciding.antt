-- What was held back when the run rests: whether it is still open.
use Rattle.std.specs.Prelude.{◌≡◌, ◌⊎◌, ◌≤◌, ◌^◌, ◌-◌, ℕ, List, [], Option, Some, None, All, Contains, min}
use Rattle.inst_logic.specs.Clauses.{TreeClause, instance, canonical_form}
use Rattle.inst_logic.specs.Measure.{clause_size}
use Rattle.inst_calculus.specs.Entries.{Entry, entry_clauses}
use Rattle.inst_calculus.specs.Saturation.{IsCovered}
use Rattle.inst_calculus.specs.Conclusions.{IsConclusion}
use Rattle.engine_laws.specs.Pairs.{Held, IsStillSelected, IsCoveredNow, IsDecided}
use Rattle.instgen_run.specs.declared.state.Run.{Run}
use Rattle.instgen_run.specs.declared.premises.Premises.{Premises}
use Rattle.instgen_run.specs.Loops.{held_of}
use Rattle.instgen_run.specs.Running.{entries_of}

abbrev pub held_value : Premises → Held
held_value h = record { from = h.from; place = h.place; partner = h.partner; other = h.other }

-- the numbers name entries with literals there, which have a conclusion
abbrev pub IsSomeConclusion : List Entry → Held → Type 0
IsSomeConclusion es h = (clause : TreeClause) × IsConclusion es h.from h.place h.partner h.other clause

-- the conclusion of this size, cut at the greatest number, is not covered, and its literals are selected
pub record IsOpenHeld {S I C : Type 0} (r : Run S I C) (h : Held) (size : ℕ) : Type 0 where
  pub clause : TreeClause
  pub concluded : IsConclusion (entries_of r) h.from h.place h.partner h.other clause
  pub still : IsStillSelected r.selection.places h
  pub uncovered : ¬ IsCovered (entry_clauses (entries_of r)) concluded.entry.clause (instance concluded.unifier.left concluded.entry.clause)
  pub size_is : size ≡ min (clause_size clause) (2 ^ 64 - 1)

-- some that were held back are open, and the smallest has this size
pub record IsLeastOpen {S I C : Type 0} (r : Run S I C) (size : ℕ) : Type 0 where
  pub still : List Held
  pub decided : All (IsDecided (entries_of r) r.selection.places still) (held_of r)
  pub open_at : (h : Held) → Contains still h → (n : ℕ) × IsOpenHeld r h n × (size ≤ n)
  pub at : Held
  pub at_still : Contains still at
  pub at_open : IsOpenHeld r at size

-- none is open, or the size of the smallest
abbrev pub IsDecision : {S I C : Type 0} → Run S I C → Option ℕ → Type 0
IsDecision r None = All (IsDecided (entries_of r) r.selection.places []) (held_of r)
IsDecision r (Some size) = IsLeastOpen r size

-- the same for one
abbrev pub IsOneDecision : {S I C : Type 0} → Run S I C → Held → Option ℕ → Type 0
IsOneDecision r h None = (¬ IsStillSelected r.selection.places h) ⊎ IsCoveredNow (entries_of r) h
IsOneDecision r h (Some size) = IsOpenHeld r h size

-- the clause d, an instance of c, is covered, or it is not and has this size
abbrev pub IsCoveredOrSize : {S I C : Type 0} → Run S I C → TreeClause → TreeClause → Option ℕ → Type 0
IsCoveredOrSize r c d None = IsCovered (entry_clauses (entries_of r)) c d
IsCoveredOrSize r c d (Some size) = (¬ IsCovered (entry_clauses (entries_of r)) c d) × (size ≡ min (clause_size (canonical_form d)) (2 ^ 64 - 1))

-- the smaller of two sizes, where there is one
abbrev pub IsLesser : Option ℕ → Option ℕ → Option ℕ → Type 0
IsLesser None p r = r ≡ p
IsLesser (Some m) None r = r ≡ Some m
IsLesser (Some m) (Some n) r = (k : ℕ) × (r ≡ Some k) × (k ≤ m) × (k ≤ n) × ((k ≡ m) ⊎ (k ≡ n))
