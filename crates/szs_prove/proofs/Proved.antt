-- What the parts of the command `prove` say of the whole.
use Rattle.std.proofs.Common.{◌≡◌, ℕ, List, Option, refl, subst}
use Rattle.std.specs.Prelude.{IfOk, Result, Ok, Err}
use Rattle.inst_logic.specs.declared.clause.Problem.{Problem}
use Rattle.outside_io.specs.declared.library.NamedFile.{NamedFile}
use Rattle.cert_format.specs.Printable.{IsTextName}
use Rattle.cert_format.specs.Text.{written_text}
use Rattle.cert_values.specs.declared.certificate.Refutation.{Refutation}
use Rattle.cert_values.specs.declared.certificate.Covered.{Covered}
use Rattle.cert_front.specs.Kinds.{covered_value, refutation_value}
use Rattle.szs_prove.specs.Decisions.{IsDecision}
use Rattle.szs_prove.specs.declared.decision.Decision.{Decision}
use Rattle.szs_prove.specs.declared.decision.Decision.TheVariants as decision
use Rattle.szs_prove.specs.declared.decision.Decision.TheVariants.{Unsatisfiable, Satisfiable}
use Rattle.szs_prove.specs.Answers.{HasVerdict, IsProblemOf, IsUndecided}
use Rattle.szs_prove.specs.Proving.{HasCertificate}
use Rattle.szs_prove.specs.declared.refusal.Reason.TheVariants.{OutOfBudget}

-- ---- what was decided of a problem

module _ (p : Problem) (budget : ℕ) (file text : List ℕ) (d : Decision) (h : IsDecision p budget d) where
  pub refuted_text : (c : Refutation) → d ≡ Unsatisfiable c → text ≡ written_text file (refutation_value c) → HasCertificate p file text
  refuted_text c is same = record { certificate = refutation_value c; shown = subst (IsDecision p budget) is h; is = same }

  pub satisfied_text : (c : Covered) → d ≡ Satisfiable c → text ≡ written_text file (covered_value c) → HasCertificate p file text
  satisfied_text c is same = record { certificate = covered_value c; shown = subst (IsDecision p budget) is h; is = same }

-- nothing else is a reason than want of budget
pub stopped : (p : Problem) (budget left wanted : ℕ) (d : Decision) → IsDecision p budget d → d ≡ decision.OutOfBudget left wanted → IsUndecided budget p (OutOfBudget budget left wanted)
stopped p budget left wanted d h is = (refl, subst (IsDecision p budget) is h)

-- ---- the problem of a file

pub all_verdicts : {E : Type 0} (files : Option (List NamedFile)) (file : List ℕ) (root : Option (List ℕ)) (p : Problem) → IsTextName file → IsProblemOf files file root p
    → (r : Result (List ℕ) E) → IfOk r (HasCertificate p file) → IfOk r (HasVerdict files file root)
all_verdicts files file root p name is (Ok text) h =
    (h.certificate, record { problem = p; is_problem = is; certifies = h.shown.certifies; replayed = h.shown.replayed; name = name }, h.is)
all_verdicts files file root p name is (Err e) h = tt
