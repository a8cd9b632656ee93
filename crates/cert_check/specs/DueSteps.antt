-- What is due of the members that a scan of the pairs has seen, with what is known of it so far.
use Rattle.std.specs.Prelude.{◌≡◌, ◌≢◌, ℕ, suc, ◌-◌, ◌<◌, ◌≤◌, true, false, List, ◌++◌, length, drop, slice_get}
use Rattle.std.specs.List.{AllZip}
use Rattle.inst_logic.specs.Clauses.{instance, canonical_form}
use Rattle.inst_logic.specs.Unifiers.{Sided, IsMostGeneral}
use Rattle.inst_calculus.specs.Models.{SelectedClause}
use Rattle.term_bank.specs.Forest.{Forest}
use Rattle.unify_core.specs.Sides.{Binding, IsResolvedBy, of_side}
use Rattle.unify_core.specs.declared.side.Side.{Side}
use Rattle.cert_format.specs.Certificate.{Saturation, Covered}
use Rattle.cert_format.specs.Dues.{Due, row, pairs, AreDueOfSide, AreDueOfPair, AreDueOf, AreDue}
use Rattle.cert_format.specs.Validity.{CoversAt, IsCoverOf, SelectsAt}
use Rattle.cert_values.specs.Values.{side_of}
use Rattle.cert_values.specs.declared.certificate.Covered.{Covered as Values}
use Rattle.cert_values.specs.Wholes.{KeepsSaturation}
use Rattle.cert_check.specs.Closings.{IsGeneralOn}
use Rattle.cert_index.specs.Meetings.{LeadsOn}
use Rattle.cert_check.specs.Sides.{left_number, right_number}
use Rattle.cert_check.specs.declared.compare.Progress.{Progress}

-- the instance of the side's member under the unifier
abbrev pub due_of : Side → ℕ → ℕ → SelectedClause → Sided → Due
due_of side own other m s = record {
  left = left_number side own other;
  right = right_number side own other;
  side = side_of side;
  whole = m.clause;
  clause = canonical_form (instance (of_side s side) m.clause);
}

-- where P holds of what is due so far, Q holds of this with what is due of the side
abbrev pub GivesSide : Saturation → Forest → List Binding → Side → ℕ → ℕ → (List Due → Type 0) → (List Due → Type 0) → Type 0
GivesSide c f es side own other P Q = (s : Sided) → IsResolvedBy f es s → (m n : SelectedClause) → SelectsAt c (suc own) m → SelectsAt c (suc other) n → IsGeneralOn side s m.selected.atom n.selected.atom
    → (here : List Due) × AreDueOfSide (due_of side own other m s) (of_side s side) m.selected.atom here × ((ds : List Due) → P ds → Q (ds ++ here))

-- where P holds of what is due so far, Q holds of this with what is due of the pair
abbrev pub GivesPair : Saturation → ℕ → ℕ → (List Due → Type 0) → (List Due → Type 0) → Type 0
GivesPair c left right P Q = (here : List Due) × AreDueOfPair c left right here × ((ds : List Due) → P ds → Q (ds ++ here))

-- where the members have opposite signs and the unifier
abbrev pub GivesMeeting : Saturation → Forest → List Binding → ℕ → ℕ → (List Due → Type 0) → (List Due → Type 0) → Type 0
GivesMeeting c f es i j P Q = (s : Sided) → IsResolvedBy f es s → (m n : SelectedClause) → SelectsAt c (suc i) m → SelectsAt c (suc j) n → m.selected.positive ≢ n.selected.positive → IsMostGeneral s m.selected.atom n.selected.atom
    → GivesPair c (suc i) (suc j) P Q

-- with what is due of the pairs whose left place is i or a later one, ds is what is due of all
abbrev pub AreSeen : Saturation → ℕ → List Due → Type 0
AreSeen c i ds = (rest : List Due) → AreDueOf c (pairs (suc i) (length c.base.members - i)) rest → AreDue c (ds ++ rest)

-- and of those with left place i only from the right place on
abbrev pub AreSeenTo : Saturation → ℕ → ℕ → List Due → Type 0
AreSeenTo c i from ds = (rest : List Due) → AreDueOf c (row (suc i) (suc from) (length c.base.members - from) ++ pairs (suc (suc i)) (length c.base.members - suc i)) rest → AreDue c (ds ++ rest)

-- all pairs with the left place
abbrev pub GivesRow : Saturation → ℕ → (List Due → Type 0) → (List Due → Type 0) → Type 0
GivesRow c i P Q = (ds : List Due) → AreSeen c i ds → P ds → (fs : List Due) × AreSeen c (suc i) fs × Q fs

-- a scan of the list, which leads on from place i, is at an item: what it has passed has the fact with i
pub record IsAmong (c : Saturation) (i : ℕ) (js : List ℕ) (index : ℕ) (P : ℕ → ℕ → Type 0) : Type 0 where
  pub from : ℕ
  pub later : i < from
  pub within : from ≤ length c.base.members
  pub ahead : LeadsOn c i from (drop index js)
  pub before : (k : ℕ) → k < from → P (suc i) (suc k)

-- and what is due of it
pub record IsDueAmong (c : Saturation) (i : ℕ) (js : List ℕ) (index : ℕ) (P : ℕ → ℕ → Type 0) (Start Now : List Due → Type 0) : Type 0 where
  pub among : IsAmong c i js index P
  pub due : (ds : List Due) → AreSeen c i ds → Start ds → (fs : List Due) × AreSeenTo c i among.from fs × Now fs

-- the bank and the covers may have grown
pub record GrowsCovers (old new : Values) : Type 0 where
  pub cert : KeepsSaturation old.cert new.cert
  pub rest : new ≡ record old { cert = new.cert; covers = new.covers }

-- the bank and what is named for the inputs and axioms may have grown
pub record GrowsShown (old new : Values) : Type 0 where
  pub cert : KeepsSaturation old.cert new.cert
  pub rest : new ≡ record old { cert = new.cert; shown = new.shown }

-- the covers are those of what is due
abbrev pub AreNamed : Covered → List Due → Type 0
AreNamed v ds = AllZip (IsCoverOf v.saturation.base.members) ds v.covers

-- Of what is due so far the covers are right up to the first wrong one. Where there is none, they were compared with all of it.
pub record AreCompared (v : Covered) (p : Progress) (ds : List Due) : Type 0 where
  pub before : (k : ℕ) → k < p.count → CoversAt v.saturation.base.members (slice_get ds k) (slice_get v.covers k)
  pub all : p.wrong ≡ false → p.count ≡ length ds
  pub within : p.wrong ≡ true → p.count < length ds
  pub wrong : p.wrong ≡ true → ¬ CoversAt v.saturation.base.members (slice_get ds p.count) (slice_get v.covers p.count)
