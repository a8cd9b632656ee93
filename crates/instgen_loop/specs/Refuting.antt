-- The refutation that a derivation over numbered atoms gives.
use Rattle.std.specs.Prelude.{ℕ, ◌-◌, ◌<◌, ◌≤◌, List, map, All, nat_eq, slice_index_or}
use Rattle.inst_logic.specs.declared.signed.Signed.{Signed}
use Rattle.inst_logic.specs.Equal.{signed_eq}
use Rattle.inst_logic.specs.Lists.{distinct}
use Rattle.prop_logic.specs.declared.literal.Hint.{Hint}
use Rattle.prop_logic.specs.declared.literal.Hint.TheVariants.{Added, Step as Before}
use Rattle.prop_logic.specs.declared.literal.Step.{Step}
use Rattle.ground_abs.specs.Numbers.{named}
use Rattle.cert_values.specs.declared.member.Member.{Member}
use Rattle.cert_values.specs.declared.certificate.Base.{Base}
use Rattle.cert_values.specs.declared.certificate.GroundHint.{GroundHint}
use Rattle.cert_values.specs.declared.certificate.GroundHint.TheVariants.{Ground, Step as Earlier}
use Rattle.cert_values.specs.declared.certificate.GroundStep.{GroundStep}
use Rattle.instgen_loop.specs.declared.start.Given.{Given}
use Rattle.instgen_run.specs.declared.state.Run.{Run}
use Rattle.instgen_loop.specs.declared.hand_over.Remains.{Remains}
use Rattle.instgen_loop.specs.declared.refuted.RefutedRun.{RefutedRun}
use Rattle.instgen_run.specs.Clauses.{Item}

-- the literals with the ids of their atoms, each at its first place only
abbrev pub ground_clause : List ℕ → List (Signed ℕ) → List (Signed ℕ)
ground_clause ids c = distinct (signed_eq nat_eq) (map (named ids) c)

-- clause n of the solver is the abstraction of entry n, and so the ground line whose number stands there
abbrev pub ground_hint : List ℕ → Hint → GroundHint
ground_hint numbers (Added n) = Ground (slice_index_or numbers (n - 1) 0)
ground_hint numbers (Before n) = Earlier n

abbrev pub ground_step : List ℕ → List ℕ → Step → GroundStep
ground_step ids numbers s = record { clause = ground_clause ids s.clause; hints = map (ground_hint numbers) s.hints }

-- a hint names one of so many clauses, or a step
abbrev pub IsHintWithin : ℕ → Hint → Type 0
IsHintWithin count (Added n) = (0 < n) × (n ≤ count)
IsHintWithin count (Before n) = Unit {0}

abbrev pub AreHintsWithin : ℕ → List Step → Type 0
AreHintsWithin count steps = All (λ s. All (IsHintWithin count) s.hints) steps

abbrev pub member_of : Item → Member
member_of e = record { clause = e.0; origin = e.1 }

-- what a run leaves to a certificate
abbrev pub remains_of : {S I C : Type 0} → Run S I C → Given → Remains
remains_of r g = record { bank = r.entries.bank; clauses = r.entries.clauses; given = g }

abbrev pub base_from : List (List ℕ) → Remains → Base
base_from names m = record { bank = m.bank; inputs = m.given.inputs; names = names; axioms = m.given.axioms; members = map member_of m.clauses.entries }

-- what a refutation is made of
abbrev pub refuted_from : {S I C : Type 0} → Run S I C → Given → List Step → RefutedRun
refuted_from r g steps = record { remains = remains_of r g; abstraction = r.ground.abstraction; literals = r.ground.literals; derivation = steps }
