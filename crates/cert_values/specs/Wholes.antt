-- Certificates that are whole: each id is one of their bank, and each literal's id that of an atom. And what keeps them the same.
use Rattle.std.specs.Prelude.{◌≡◌, ◌<◌, ℕ, ◌^◌, ◌-◌, List, length, true, All}
use Rattle.inst_logic.specs.declared.signed.Signed.{Signed}
use Rattle.inst_logic.specs.Measure.{tree_weight}
use Rattle.inst_logic.specs.WellFormed.{IsAtom, IsTerm}
use Rattle.inst_calculus.specs.Models.{SelectedClause}
use Rattle.term_bank.specs.Forest.{Forest, AreFormed, Extends, IsClauseOf, tree_at, is_ground}
use Rattle.cert_format.specs.Certificate as format
use Rattle.cert_format.specs.Validity.{IsRightPlace}
use Rattle.cert_values.specs.declared.certificate.Base.{Base}
use Rattle.cert_values.specs.declared.certificate.FirstRefutation.{FirstRefutation}
use Rattle.cert_values.specs.declared.certificate.GroundLine.{GroundLine}
use Rattle.cert_values.specs.declared.certificate.Refutation.{Refutation}
use Rattle.cert_values.specs.declared.certificate.Saturation.{Saturation}
use Rattle.cert_values.specs.declared.certificate.By.{By}
use Rattle.cert_values.specs.declared.certificate.By.TheVariants.{Tautology, Variant, Part}
use Rattle.cert_values.specs.declared.certificate.Cover.{Cover}
use Rattle.cert_values.specs.declared.certificate.Covered.{Covered}

-- the ids are those of atoms of the bank
pub record IsWholeClause (f : Forest) (c : List (Signed ℕ)) : Type 0 where
  pub ids : IsClauseOf f c
  pub atoms : All (λ l. IsAtom (tree_at f l.atom)) c

pub record IsWholeBase (b : Base) : Type 0 where
  pub bank : AreFormed b.bank
  pub inputs : All (IsWholeClause b.bank) b.inputs
  pub axioms : All (IsWholeClause b.bank) b.axioms
  pub members : All (λ m. IsWholeClause b.bank m.clause) b.members

-- of the first format
pub record IsWholeFirst (r : FirstRefutation) : Type 0 where
  pub base : IsWholeBase r.base
  pub grounds : All (IsWholeClause r.base.bank) r.grounds
  pub steps : All (λ s. IsWholeClause r.base.bank s.clause) r.steps

-- the id is that of a term of the bank
pub record IsWholeTerm (f : Forest) (id : ℕ) : Type 0 where
  pub within : id < length f.trees
  pub term : IsTerm (tree_at f id)

pub record IsWholeLine (f : Forest) (g : GroundLine) : Type 0 where
  pub clause : IsWholeClause f g.clause
  pub terms : All (IsWholeTerm f) g.terms

pub record IsWholeRefutation (r : Refutation) : Type 0 where
  pub base : IsWholeBase r.base
  pub grounds : All (IsWholeLine r.base.bank) r.grounds
  pub steps : All (λ s. IsWholeClause r.base.bank s.clause) r.steps

abbrev pub IsWholeSaturation : Saturation → Type 0
IsWholeSaturation s = IsWholeBase s.base

abbrev pub IsWholeBy : Forest → By → Type 0
IsWholeBy f Tautology = Unit {0}
IsWholeBy f (Variant n) = Unit {0}
IsWholeBy f (Part n terms) = All (IsWholeTerm f) terms

pub record IsWholeCover (f : Forest) (v : Cover) : Type 0 where
  pub clause : IsWholeClause f v.clause
  pub by : IsWholeBy f v.by

pub record IsWholeCovered (c : Covered) : Type 0 where
  pub cert : IsWholeSaturation c.cert
  pub shown : All (IsWholeBy c.cert.base.bank) c.shown
  pub covers : All (IsWholeCover c.cert.base.bank) c.covers

-- the bank may have grown, and all else is the same
pub record KeepsBase (old new : Base) : Type 0 where
  pub bank : Extends old.bank new.bank
  pub rest : new ≡ record old { bank = new.bank }

pub record KeepsFirst (old new : FirstRefutation) : Type 0 where
  pub base : KeepsBase old.base new.base
  pub rest : new ≡ record old { base = new.base }

pub record KeepsRefutation (old new : Refutation) : Type 0 where
  pub base : KeepsBase old.base new.base
  pub rest : new ≡ record old { base = new.base }

pub record KeepsSaturation (old new : Saturation) : Type 0 where
  pub base : KeepsBase old.base new.base
  pub rest : new ≡ record old { base = new.base }

pub record KeepsCovered (old new : Covered) : Type 0 where
  pub cert : KeepsSaturation old.cert new.cert
  pub rest : new ≡ record old { cert = new.cert }

-- there is one place for each member, and it is one of its literals
abbrev pub HasPlaces : format.Saturation → Type 0
HasPlaces c = (n : ℕ) → IsRightPlace c n

-- the selected literals are lighter than 2 ^ 64 - 1, so that the bank's weights tell theirs
abbrev pub AreLight : List SelectedClause → Type 0
AreLight ms = All (λ m. tree_weight m.selected.atom < 2 ^ 64 - 1) ms

-- a ground atom of the bank
pub record IsGroundAtom (f : Forest) (id : ℕ) : Type 0 where
  pub within : id < length f.trees
  pub atom : IsAtom (tree_at f id)
  pub variable_free : is_ground (tree_at f id) ≡ true
