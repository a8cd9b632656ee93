-- What an origin from two members gives.
use Rattle.std.proofs.Common.{◌≡◌, ℕ, ◌+◌, ◌<◌, List, sym, map, subst, arith, length, get_or}
use Rattle.std.specs.Prelude.{◌↔◌, All}
use Rattle.inst_calculus.specs.Conclusions.{IsPartOfConclusion}
use Rattle.inst_calculus.specs.Parts.{AreWithin}
use Rattle.term_bank.specs.Forest.{clause_at}
use Rattle.cert_format.specs.Validity.{Gives, IsConclusion, IsRightMember}
use Rattle.cert_values.specs.declared.member.Member.{Member}
use Rattle.cert_values.specs.declared.member.Origin.{Origin}
use Rattle.cert_values.specs.declared.member.Origin.TheVariants.{Inst, Lemma}
use Rattle.cert_values.specs.declared.certificate.Base.{Base}
use Rattle.cert_values.specs.Values.{base_of, entry_of, origin_of}
use Rattle.cert_check.specs.Parts.{IsPartGiven}
use Rattle.cert_check.proofs.Rightness.{right_by}

-- a member from two others is right exactly where they come before it and conclude it
pub right_inst : (b : Base) (i : ℕ) (m : Member) (from place partner other : ℕ) → i < length b.members → m ≡ get_or b.members i m → m.origin ≡ Inst from place partner other
    → ((from < i + 1) × (partner < i + 1) × IsConclusion (map (entry_of b.bank) b.members) from place partner other (clause_at b.bank m.clause)) ↔ IsRightMember (base_of b) (i + 1)
right_inst b i m from place partner other within is origin =
    let by = right_by b i m within is in
    let P = λ (o : Origin). Gives (base_of b) (i + 1) (origin_of o) (clause_at b.bank m.clause) in (
      (λ g. by.0 (subst P (sym origin) g)),
      (λ r. subst P origin (by.1 r)),
    )

-- a member that is part of what two others conclude is right exactly where they and its premises come before it and it is this part
module _ (b : Base) (i : ℕ) (m : Member) (from place partner other : ℕ) (keep premises : List ℕ) (within : i < length b.members) (is : m ≡ get_or b.members i m) (origin : m.origin ≡ Lemma from place partner other keep premises) where
  given : IsRightMember (base_of b) (i + 1)
      → (from < i + 1) × (partner < i + 1) × All (λ d. (0 < d) × (d < i + 1)) premises × IsPartOfConclusion (map (entry_of b.bank) b.members) from place partner other keep (clause_at b.bank m.clause)
  given r = subst (λ (o : Origin). Gives (base_of b) (i + 1) (origin_of o) (clause_at b.bank m.clause)) origin ((right_by b i m within is).1 r)

  pub right_part : AreWithin i premises → IsPartGiven (map (entry_of b.bank) b.members) (i + 1) from place partner other keep (clause_at b.bank m.clause) ↔ IsRightMember (base_of b) (i + 1)
  right_part before = (
    (λ g. (right_by b i m within is).0 (
        subst (λ (o : Origin). Gives (base_of b) (i + 1) (origin_of o) (clause_at b.bank m.clause)) (sym origin)
        (g.0, g.1, (λ k d l. ((before k d l).0, (let h = (before k d l).1 in omega arith))), g.2))),
    (λ r. let g = given r in (g.0, g.1, g.3)),
  )

  pub premises_before : IsRightMember (base_of b) (i + 1) → AreWithin i premises
  premises_before r k d l = (((given r).2 k d l).0, (let h = ((given r).2 k d l).1 in omega arith))
