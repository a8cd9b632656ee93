-- Covers that are compared with what is due.
use Rattle.std.specs.Prelude.{◌≡◌, ◌↔◌, ℕ, suc, Bool, IsTrue, List, Some, slice_get}
use Rattle.inst_logic.specs.Clauses.{canonical_form, instance}
use Rattle.inst_logic.specs.Derivations.{at_number}
use Rattle.inst_logic.specs.Unifiers.{Sided}
use Rattle.inst_calculus.specs.Models.{SelectedClause}
use Rattle.cert_format.specs.TermLists.{HoldsBy}
use Rattle.cert_format.specs.Validity.{CoversAt, IsValidBase, SelectsAt}
use Rattle.cert_values.specs.declared.certificate.By.TheVariants.{Variant}
use Rattle.cert_values.specs.declared.certificate.Cover.{Cover}
use Rattle.cert_values.specs.declared.certificate.Covered.{Covered}
use Rattle.cert_values.specs.declared.certificate.Saturation.{Saturation}
use Rattle.cert_values.specs.declared.member.Member.{Member}
use Rattle.cert_values.specs.declared.member.Origin.TheVariants.{Inst}
use Rattle.cert_values.specs.Values.{base_of, by_of, covered_of, saturation_of}
use Rattle.cert_values.specs.Wholes.{HasPlaces, IsWholeCovered}
use Rattle.term_bank.specs.Forest.{clause_at}
use Rattle.unify_core.specs.Sides.{Binding, IsResolvedBy, of_side}
use Rattle.unify_core.specs.declared.side.Side.{Side}
use Rattle.cert_check.specs.Closings.{IsGeneralOn}
use Rattle.cert_check.specs.DueSteps.{due_of}
use Rattle.cert_check.specs.declared.due_side.DueSide.{DueSide}

-- what the comparison stands on: the certificate has passed the checks of its axioms, members and places
pub record IsComparable (c : Covered) : Type 0 where
  pub whole : IsWholeCovered c
  pub base : IsValidBase (base_of c.cert.base)
  pub placed : HasPlaces (saturation_of c.cert)

-- the answer is whether the cover's clause is the instance of member n on the side, and what it names covers it
abbrev pub IsNamedRight : Saturation → List Binding → Side → ℕ → Cover → Bool → Type 0
IsNamedRight c es x n v r = (s : Sided) → IsResolvedBy c.base.bank es s → (m : SelectedClause) → SelectsAt (saturation_of c) n m
    → IsTrue r ↔ ((clause_at c.base.bank v.clause ≡ canonical_form (instance (of_side s x) m.clause)) × HoldsBy (saturation_of c).base.members m.clause (clause_at c.base.bank v.clause) (by_of c.base.bank v.by))

-- where the unifier that the bindings stand for is most general for both selected atoms, the answer is whether the cover's clause is
-- the instance of the side's member, and what it names covers it
abbrev pub IsNamedOf : Saturation → List Binding → DueSide → Cover → Bool → Type 0
IsNamedOf c es due v r = (s : Sided) → IsResolvedBy c.base.bank es s → (m n : SelectedClause) → SelectsAt (saturation_of c) (suc due.own) m → SelectsAt (saturation_of c) (suc due.other) n → IsGeneralOn due.side s m.selected.atom n.selected.atom
    → IsTrue r ↔ ((clause_at c.base.bank v.clause ≡ canonical_form (instance (of_side s due.side) m.clause)) × HoldsBy (saturation_of c).base.members m.clause (clause_at c.base.bank v.clause) (by_of c.base.bank v.by))

-- the cover names a member that has its clause and was made from the selected literals of both members
pub record IsMadeCover (c : Saturation) (due : DueSide) (v : Cover) : Type 0 where
  pub number : ℕ
  pub member : Member
  pub place : ℕ
  pub other : ℕ
  pub by : v.by ≡ Variant number
  pub at : at_number c.base.members number ≡ Some member
  pub here : slice_get c.places due.own ≡ Some place
  pub there : slice_get c.places due.other ≡ Some other
  pub origin : member.origin ≡ Inst (suc due.own) place (suc due.other) other
  pub clause : member.clause ≡ v.clause

-- the answer is whether the cover at the place is that of the side
abbrev pub IsCoverRight : Covered → List Binding → DueSide → ℕ → Bool → Type 0
IsCoverRight c es due place r = (s : Sided) → IsResolvedBy c.cert.base.bank es s → (m n : SelectedClause) → SelectsAt (saturation_of c.cert) (suc due.own) m → SelectsAt (saturation_of c.cert) (suc due.other) n → IsGeneralOn due.side s m.selected.atom n.selected.atom
    → IsTrue r ↔ CoversAt (saturation_of c.cert).base.members (Some (due_of due.side due.own due.other m s)) (slice_get (covered_of c).covers place)
