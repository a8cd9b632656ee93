-- What each outcome says.
use Rattle.std.specs.Prelude.{◌≡◌, ℕ, zero, suc, List, [], ◌∷◌, length, map}
use Rattle.inst_logic.specs.declared.symbol.Sym.{Sym}
use Rattle.inst_logic.specs.Clauses.{TreeClause}
use Rattle.inst_logic.specs.Truth.{IsRefuted}
use Rattle.inst_calculus.specs.Abstraction.{abstraction}
use Rattle.inst_calculus.specs.Axioms.{equality_axioms, with_axioms}
use Rattle.inst_calculus.specs.Entries.{entry_clauses}
use Rattle.cert_format.specs.Certificate.{selected_members}
use Rattle.cert_format.specs.Validity.{IsValidByLines, IsValidSaturation}
use Rattle.cert_format.specs.Printable.{IsPrintableByLines, IsPrintableSaturation}
use Rattle.inst_calculus.specs.Unrolling.{Made, AreRecords}
use Rattle.engine_laws.specs.GroundLines.{ground_lines}
use Rattle.inst_machine.specs.Machine.{State, IsSettled}
use Rattle.inst_machine.specs.Replay.{ReplaysFrom, IsSelection}
use Rattle.inst_machine.specs.Budget.{RunsOut}
use Rattle.cert_values.specs.declared.certificate.Base.{Base}
use Rattle.cert_values.specs.declared.certificate.Refutation.{Refutation}
use Rattle.cert_values.specs.declared.certificate.Saturation.{Saturation}
use Rattle.cert_values.specs.Values.{base_of, refutation_of, saturation_of}
use Rattle.cert_values.specs.Wholes.{IsWholeRefutation, IsWholeSaturation}
use Rattle.instgen_run.specs.declared.event.Event.{Event}
use Rattle.instgen_run.specs.declared.event.Event.TheVariants.{Solved, Inferred}
use Rattle.instgen_run.specs.Running.{event_in}
use Rattle.instgen_loop.specs.declared.outcome.Outcome.{Outcome}
use Rattle.instgen_loop.specs.declared.outcome.Outcome.TheVariants.{Refuted, Saturated, OutOfBudget}

-- the certificate is of the problem with its own constant, and the journal replays to its members and ends in t
pub record IsRunOf (clauses : List TreeClause) (names : List (List ℕ)) (base : Base) (bot : Sym) (journal : List Event) (t : State) : Type 0 where
  pub inputs : (base_of base).inputs ≡ clauses
  pub named : base.names ≡ names
  pub axioms : (base_of base).axioms ≡ equality_axioms clauses
  pub replays : ReplaysFrom clauses bot (map (event_in base.bank) journal) t
  pub members : t.entries ≡ (base_of base).members

-- a settled run, with a true literal of each member selected
pub record IsSelectedRun (clauses : List TreeClause) (names : List (List ℕ)) (cert : Saturation) (journal : List Event) (bot : Sym) (t : State) : Type 0 where
  pub run : IsRunOf clauses names cert.base bot journal t
  pub settled : IsSettled bot t
  pub placed : length cert.places ≡ length cert.base.members
  pub selection : IsSelection bot t (selected_members (saturation_of cert))
  pub whole : IsWholeSaturation cert

-- A valid refutation that can be printed, of a run in which no valuation makes the abstraction of each entry true. Its ground lines
-- are those of the unrolled lists of its members, with the constant for every variable, one list after the other, each line once.
pub record IsRefutedRun (clauses : List TreeClause) (names : List (List ℕ)) (cert : Refutation) (journal : List Event) : Type 0 where
  pub state : State
  pub run : IsRunOf clauses names cert.base cert.bot journal state
  pub refuted : IsRefuted (map (abstraction cert.bot) (entry_clauses state.entries))
  pub whole : IsWholeRefutation cert
  pub made : List Made
  pub records : AreRecords cert.bot state.entries made
  pub lines : (refutation_of cert).grounds ≡ ground_lines cert.bot (with_axioms clauses) made
  pub valid : IsValidByLines (refutation_of cert)
  pub printable : IsPrintableByLines (refutation_of cert)

-- a valid saturation that can be printed
pub record IsSaturatedRun (clauses : List TreeClause) (names : List (List ℕ)) (cert : Saturation) (journal : List Event) : Type 0 where
  pub bot : Sym
  pub state : State
  pub run : IsSelectedRun clauses names cert journal bot state
  pub valid : IsValidSaturation (saturation_of cert)
  pub printable : IsPrintableSaturation (saturation_of cert)

-- a run that ends for want of budget
pub record IsStoppedRun (clauses : List TreeClause) (names : List (List ℕ)) (budget left wanted : ℕ) (cert : Saturation) (journal : List Event) : Type 0 where
  pub bot : Sym
  pub state : State
  pub run : IsSelectedRun clauses names cert journal bot state
  pub ends : RunsOut clauses budget left wanted bot (map (event_in cert.base.bank) journal) state (selected_members (saturation_of cert))

abbrev pub IsOutcome : List TreeClause → List (List ℕ) → ℕ → Outcome → Type 0
IsOutcome clauses names budget (Refuted cert journal) = IsRefutedRun clauses names cert journal
IsOutcome clauses names budget (Saturated cert journal) = IsSaturatedRun clauses names cert journal
IsOutcome clauses names budget (OutOfBudget left wanted cert journal) = IsStoppedRun clauses names budget left wanted cert journal

abbrev pub journal_of : Outcome → List Event
journal_of (Refuted cert journal) = journal
journal_of (Saturated cert journal) = journal
journal_of (OutOfBudget left wanted cert journal) = journal

-- how many entries the events append
abbrev pub appended_count : List Event → ℕ
appended_count [] = zero
appended_count (Solved flips ∷ events) = appended_count events
appended_count (Inferred origin ∷ events) = suc (appended_count events)

-- the clauses are refuted, or saturated
abbrev pub IsDecided : Outcome → Type 0
IsDecided (Refuted cert journal) = Unit {0}
IsDecided (Saturated cert journal) = Unit {0}
IsDecided (OutOfBudget left wanted cert journal) = ⊥
