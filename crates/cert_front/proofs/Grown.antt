-- A certificate whose bank has grown, and what is handed back of it.
use Rattle.std.proofs.Common.{◌≡◌, refl, sym, subst, ap}
use Rattle.std.specs.Prelude.{Option, None, IfOk, MatchResult, Result, Ok, Err}
use Rattle.std.proofs.lemmas.Result.{IfOk-weaker}
use Rattle.inst_logic.specs.declared.memory.Memory.{Memory}
use Rattle.inst_logic.specs.declared.clause.Problem.{Problem}
use Rattle.cert_format.specs.Certificate as format
use Rattle.cert_format.specs.Certificate.{Certificate, base_of}
use Rattle.cert_values.specs.declared.certificate.Base.{Base}
use Rattle.cert_values.specs.declared.certificate.FirstRefutation.{FirstRefutation}
use Rattle.cert_values.specs.declared.certificate.Refutation.{Refutation}
use Rattle.cert_values.specs.declared.certificate.Saturation.{Saturation}
use Rattle.cert_values.specs.declared.certificate.Covered.{Covered}
use Rattle.cert_values.specs.Wholes.{IsWholeBase, IsWholeCovered, IsWholeFirst, IsWholeRefutation, IsWholeSaturation, KeepsBase}
use Rattle.term_bank.specs.Forest.{AreFormed, Extends, Forest}
use Rattle.cert_values.proofs.Grown.{clauses_grown, members_grown, steps_grown}
use Rattle.cert_values.proofs.Kept.{covered_same, covered_whole, first_same, refutation_same, saturation_same}
use Rattle.cert_front.specs.Judgements.{HasInputsOf, IsChecked, IsJudgement}
use Rattle.cert_front.specs.Kinds.{covered_value, first_value, refutation_value, saturation_value}
use Rattle.cert_front.specs.declared.judgement.Judgement.{Judgement}
use Rattle.cert_front.specs.declared.judgement.Judgement.TheVariants.{Valid}
use Rattle.cert_front.proofs.OneJudgement.{with_problem}

-- ---- what is handed back

-- of a certificate alone, and for the problem whose clauses its inputs are
checked_too : {C : Type 0} (value : C → Certificate) (p : Option Problem) (c : Certificate) → HasInputsOf p (base_of c) → (r : Result C Judgement) → IsChecked value None c r → IsChecked value p c r
checked_too value p c h (Ok k) a = (with_problem p c Valid h a.0, a.1)
checked_too value p c h (Err j) a = (a.0, with_problem p c j h a.1)

pub checked_for : {C : Type 0} (value : C → Certificate) (p : Option Problem) (c d : Certificate) → d ≡ c → HasInputsOf p (base_of c) → (r : Result (Result C Judgement) Memory)
    → IfOk r (IsChecked value None d) → IfOk r (IsChecked value p c)
checked_for value p c d same h r alone = IfOk-weaker r _ _ (λ k a. checked_too value p c h k a) (subst (λ (x : Certificate). IfOk r (IsChecked value None x)) same alone)

-- the judgement where this is handed back
pub judged_by : {C : Type 0} (value : C → Certificate) (p : Option Problem) (c : Certificate) (r : Result C Judgement) (j : Judgement) → MatchResult r (λ _. j ≡ Valid) (λ e. j ≡ e) → IsChecked value p c r
    → IsJudgement p c j
judged_by value p c (Ok k) j is h = subst (IsJudgement p c) (sym is) h.0
judged_by value p c (Err e) j is h = subst (IsJudgement p c) (sym is) h.1

-- ---- the value is that of the certificate before

module _ (b : Base) where
  pub first_kept : (r : FirstRefutation) → IsWholeFirst r → KeepsBase r.base b → first_value (record r { base = b }) ≡ first_value r
  first_kept r whole kept = ap format.first_refutation (first_same r (record r { base = b }) whole (record { base = kept; rest = refl }))

  pub refutation_kept : (r : Refutation) → IsWholeRefutation r → KeepsBase r.base b → refutation_value (record r { base = b }) ≡ refutation_value r
  refutation_kept r whole kept = ap format.refutation (refutation_same r (record r { base = b }) whole (record { base = kept; rest = refl }))

  pub saturation_kept : (s : Saturation) → IsWholeSaturation s → KeepsBase s.base b → saturation_value (record s { base = b }) ≡ saturation_value s
  saturation_kept s whole kept = ap format.saturation (saturation_same s (record s { base = b }) whole (record { base = kept; rest = refl }))

  pub covered_kept : (c : Covered) → IsWholeCovered c → KeepsBase c.cert.base b → covered_value (record c { cert = record c.cert { base = b } }) ≡ covered_value c
  covered_kept c whole kept = ap format.covered (covered_same c (record c { cert = record c.cert { base = b } }) whole (record { cert = record { base = kept; rest = refl }; rest = refl }))

-- ---- whole where the base with the grown bank is

pub keeps_grown : (b : Base) (g : Forest) → Extends b.bank g → KeepsBase b (record b { bank = g })
keeps_grown b g grown = record { bank = grown; rest = refl }

pub base_whole : (b : Base) (g : Forest) → IsWholeBase b → Extends b.bank g → AreFormed g → IsWholeBase (record b { bank = g })
base_whole b g h grown formed = record {
  bank = formed;
  inputs = clauses_grown b.bank g grown b.inputs h.inputs;
  axioms = clauses_grown b.bank g grown b.axioms h.axioms;
  members = members_grown b.bank g grown b.members h.members;
}

pub first_whole : (r : FirstRefutation) (b : Base) → IsWholeFirst r → KeepsBase r.base b → IsWholeBase b → IsWholeFirst (record r { base = b })
first_whole r b h kept whole = record {
  base = whole;
  grounds = clauses_grown r.base.bank b.bank kept.bank r.grounds h.grounds;
  steps = steps_grown r.base.bank b.bank kept.bank r.steps h.steps;
}

pub covered_base_whole : (c : Covered) (b : Base) → IsWholeCovered c → KeepsBase c.cert.base b → IsWholeBase b → IsWholeCovered (record c { cert = record c.cert { base = b } })
covered_base_whole c b h kept whole = covered_whole c (record c.cert { base = b }) h (record { base = kept; rest = refl }) whole
