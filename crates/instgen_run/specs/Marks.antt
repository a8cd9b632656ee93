-- What the marks of solves and the origins of the entries tell of the events.
use Rattle.std.specs.Prelude.{◌≡◌, ℕ, ◌≤◌, List, [], ◌∷◌, ◌++◌, length, map, drop, slice_range}
use Rattle.cert_values.specs.declared.member.Origin.{Origin}
use Rattle.cert_values.specs.declared.member.Origin.TheVariants.{Input, Inst, Lemma}
use Rattle.instgen_run.specs.declared.event.Event.{Event}
use Rattle.instgen_run.specs.declared.event.Event.TheVariants.{Solved, Inferred}
use Rattle.instgen_run.specs.declared.event_log.Mark.{Mark}
use Rattle.instgen_run.specs.Clauses.{Item}
use Rattle.instgen_run.specs.Logs.{Log}

-- what an entry of this origin tells; an input is an entry from the start
abbrev pub told_by : Origin → List Event
told_by (Input k) = []
told_by (Inst from place partner other) = Inferred (Inst from place partner other) ∷ []
told_by (Lemma from place partner other keep premises) = Inferred (Lemma from place partner other keep premises) ∷ []

abbrev pub inferred : List Origin → List Event
inferred [] = []
inferred (o ∷ os) = told_by o ++ inferred os

-- the events after so many flips and entries, where these are the flips of all solves and the origins of all entries
abbrev pub events_from : List ℕ → List Origin → ℕ → ℕ → List Mark → List Event
events_from flips origins flipped done [] = inferred (drop done origins)
events_from flips origins flipped done (m ∷ ms) =
    inferred (slice_range origins done m.entries) ++ Solved (slice_range flips flipped m.flipped) ∷ events_from flips origins m.flipped m.entries ms

-- the counts go up from these, and the last solve has the last of so many flips
abbrev pub AreInOrder : ℕ → ℕ → ℕ → ℕ → List Mark → Type 0
AreInOrder flips entries flipped done [] = (flipped ≡ flips) × (done ≤ entries)
AreInOrder flips entries flipped done (m ∷ ms) =
    (flipped ≤ m.flipped) × (m.flipped ≤ flips) × (done ≤ m.entries) × (m.entries ≤ entries) × AreInOrder flips entries m.flipped m.entries ms

abbrev pub origins_of : List Item → List Origin
origins_of es = map (λ (e : Item). e.1) es

-- the events of a run with this log and these entries
abbrev pub events_of : Log → List Item → List Event
events_of l es = events_from l.flips (origins_of es) 0 0 l.solves

-- the log is one of a run with these entries
abbrev pub IsLogOf : Log → List Item → Type 0
IsLogOf l es = AreInOrder (length l.flips) (length (origins_of es)) 0 0 l.solves
