-- What a certificate is found to be.
use Rattle.std.specs.Prelude.{ℕ, ◌≡◌, ◌≢◌, ⊤, Option, None, Some, Result, Ok, Err}
use Rattle.inst_logic.specs.declared.clause.Problem.{Problem}
use Rattle.inst_logic.specs.Derivations.{at_number}
use Rattle.cert_format.specs.Certificate.{Base, Certificate, first_refutation, refutation, saturation, covered, base_of}
use Rattle.cert_format.specs.Validity.{RefutationPasses, LinesPass, SaturationPasses, CoversPass, IsFirstComplaint, IsValid}
use Rattle.cert_format.specs.declared.complaint.Complaint.{Complaint}
use Rattle.cert_check.specs.Firsts.{IsFirstWrong}
use Rattle.cert_front.specs.declared.judgement.Judgement.{Judgement}
use Rattle.cert_front.specs.declared.judgement.Judgement.TheVariants as judgement

-- the certificate passes the check that the complaint names
abbrev pub Passes : Certificate → Complaint → Type 0
Passes (first_refutation r) = RefutationPasses r
Passes (refutation r) = LinesPass r
Passes (saturation s) = SaturationPasses s
Passes (covered c) = CoversPass c

-- the input clauses are the problem's, where a problem is given
abbrev pub HasInputsOf : Option Problem → Base → Type 0
HasInputsOf None b = ⊤
HasInputsOf (Some p) b = b.inputs ≡ p.clauses

-- input clause n and the problem's clause n differ, or only one of the two is there; n is the least such number
abbrev pub DiffersFirstAt : Option Problem → Base → ℕ → Type 0
DiffersFirstAt None b n = ⊥
DiffersFirstAt (Some p) b n = IsFirstWrong (λ m. at_number b.inputs m ≡ at_number p.clauses m) n

-- that number, and None where the input clauses are the problem's
abbrev pub IsDifference : Option Problem → Base → Option ℕ → Type 0
IsDifference p b None = HasInputsOf p b
IsDifference p b (Some n) = DiffersFirstAt p b n

-- The certificate is valid and of the problem; or it is not of the problem; or it is, and the complaint is its first.
abbrev pub IsJudgement : Option Problem → Certificate → Judgement → Type 0
IsJudgement p c judgement.Valid = HasInputsOf p (base_of c) × IsValid c
IsJudgement p c (judgement.Problem n) = DiffersFirstAt p (base_of c) n
IsJudgement p c (judgement.Invalid complaint) = HasInputsOf p (base_of c) × IsFirstComplaint (Passes c) complaint

-- what the check of a certificate hands back: the checked value, where it is valid and of the problem; or else its judgement
abbrev pub IsChecked : {C : Type 0} → (C → Certificate) → Option Problem → Certificate → Result C Judgement → Type 0
IsChecked value p c (Ok checked) = IsJudgement p c judgement.Valid × (value checked ≡ c)
IsChecked value p c (Err j) = (j ≢ judgement.Valid) × IsJudgement p c j
