-- What the check of the axioms and members gives.
use Rattle.std.proofs.Common.{rules, ◌≡◌, ℕ, ◌<◌, ◌≤◌, refl, ap, sym, ◌∙◌, subst, Option, None, Some, arith, ◌⊎◌, inl, inr}
use Rattle.inst_logic.specs.Clauses.{TreeClause, canonical_form, instance, IsCanonical}
use Rattle.inst_logic.specs.Derivations.{at_number}
use Rattle.inst_calculus.specs.Entries.{Origin, input, inst, lemma, Entry}
use Rattle.inst_calculus.specs.Parts.{chosen}
use Rattle.inst_calculus.proofs.CanonicalForms.{canonical_of_canonical}
use Rattle.cert_format.specs.Certificate as format
use Rattle.cert_format.specs.Validity.{Gives, IsRightAxiom, IsRightMember, IsFirstComplaint, IsValidBase, Precedes, rank}
use Rattle.cert_format.specs.declared.complaint.Complaint.{Complaint}
use Rattle.cert_format.specs.declared.complaint.Complaint.TheVariants.{Axiom, Member as Derived}
use Rattle.cert_check.specs.Firsts.{IsFirstWrong, IsFirstWrongOf}
use Rattle.cert_check.specs.Stages.{IsAllowedMember, MembersPass}
use Rattle.cert_check.specs.declared.base.Lemmas.{Lemmas}
pub use Rattle.cert_values.proofs.Kept.{base_same}

-- a right member is canonical
gives_canonical : (b : format.Base) (n : ℕ) (o : Origin) (c : TreeClause) → Gives b n o c → IsCanonical c
gives_canonical b n (input k) c h = ap canonical_form h.2 ∙ canonical_of_canonical h.0 ∙ sym h.2
gives_canonical b n (inst from place partner other) c h =
    let d = instance h.2.unifier.left h.2.entry.clause in
    ap canonical_form h.2.conclusion ∙ canonical_of_canonical d ∙ sym h.2.conclusion
gives_canonical b n (lemma from place partner other keep premises) c h =
    let d = chosen h.3.whole keep in
    ap canonical_form h.3.canonical ∙ canonical_of_canonical d ∙ sym h.3.canonical

pub member_canonical : (b : format.Base) (n : ℕ) → IsRightMember b n → (e : Entry) → at_number b.members n ≡ Some e → IsCanonical e.clause
member_canonical b n right e at = gives_canonical b n e.origin e.clause (right e at)

pub at_most : (j k : Complaint) → Precedes j k → rank j ≤ rank k
at_most j k (inl p) = omega arith
at_most j k (inr (inl p)) = omega arith
at_most j k (inr (inr p)) = omega arith

-- of two complaints of one kind the one with the smaller number comes first
pub smaller : (r m n : ℕ) → (r < r) ⊎ ((r ≡ r) × (m < n)) ⊎ ((r ≡ r) × (m ≡ n) × (0 < 0)) → m < n
smaller r m n (inl p) = absurd (omega arith)
smaller r m n (inr (inl p)) = p.1
smaller r m n (inr (inr p)) = absurd (omega arith)

pub none_wrong : (P : ℕ → Type 0) (r : Option ℕ) → IsFirstWrongOf P r → ((n : ℕ) → r ≡ Some n → ⊥) → (n : ℕ) → P n
none_wrong P None h other = h
none_wrong P (Some n) h other = absurd (other n refl)

pub some_wrong : (P : ℕ → Type 0) (r : Option ℕ) (n : ℕ) → IsFirstWrongOf P r → r ≡ Some n → IsFirstWrong P n
some_wrong P r n h is = subst (IsFirstWrongOf P) is h

pub member_first : (lemmas : Lemmas) (b : format.Base) → ((n : ℕ) → IsRightAxiom b n) → (n : ℕ) → IsFirstWrong (IsAllowedMember lemmas b) n → IsFirstComplaint (MembersPass lemmas b) (Derived n)
member_first lemmas b axioms n h = search rules

pub valid_base : (b : format.Base) → ((n : ℕ) → IsRightAxiom b n) → ((n : ℕ) → IsRightMember b n) → IsValidBase b
valid_base b axioms members (Axiom n) = axioms n
valid_base b axioms members (Derived n) = members n
valid_base b axioms members _ = tt
