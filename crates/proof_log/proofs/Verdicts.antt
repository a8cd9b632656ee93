-- What each answer to whether a derivation refutes says of every other one.
use Rattle.std.proofs.Common.{ℕ, List, [], Err, Ok, ap, subst, ◌↔◌}
use Rattle.std.specs.Result.{IsErrOf}
use Rattle.inst_logic.specs.declared.signed.Signed.{Signed}
use Rattle.prop_logic.specs.declared.literal.Step.{Step}
use Rattle.prop_logic.specs.Literal.{IsShownDerivation}
use Rattle.prop_logic.specs.Solving.{EndsWith}
use Rattle.proof_log.specs.declared.checker.BadStep.{BadStep}
use Rattle.proof_log.specs.declared.checker.BadStep.TheVariants.{Step as NotShown, NotEmpty}
use Rattle.proof_log.specs.Shown.{IsFirstNotShown}
use Rattle.proof_log.proofs.Steps.{not_all_shown, one_first}

pub step_when_not_shown : (given : List (List (Signed ℕ))) (steps : List Step) (n : ℕ) → IsFirstNotShown given steps n → (m : ℕ) → IsErrOf {T = Unit {0}} (Err (NotShown n)) (NotShown m) ↔ IsFirstNotShown given steps m
step_when_not_shown given steps n first m = (
  λ e. subst (λ k. IsFirstNotShown given steps k) (cc) first,
  λ h. ap (λ k. Err (NotShown k)) (one_first given steps n m first h),
)

pub not_empty_when_not_shown : (given : List (List (Signed ℕ))) (steps : List Step) (n : ℕ) → IsFirstNotShown given steps n → IsErrOf {T = Unit {0}} (Err (NotShown n)) NotEmpty ↔ (IsShownDerivation given steps × ¬ EndsWith steps [])
not_empty_when_not_shown given steps n first = (λ e. absurd cc, λ h. absurd (not_all_shown given steps n first h.0))

pub step_when_not_empty : (given : List (List (Signed ℕ))) (steps : List Step) → IsShownDerivation given steps → (m : ℕ) → IsErrOf {T = Unit {0}} (Err NotEmpty) (NotShown m) ↔ IsFirstNotShown given steps m
step_when_not_empty given steps shown m = (λ e. absurd cc, λ h. absurd (not_all_shown given steps m h shown))

pub step_when_refuted : (given : List (List (Signed ℕ))) (steps : List Step) → IsShownDerivation given steps → (m : ℕ) → IsErrOf {T = Unit {0}} {E = BadStep} (Ok tt) (NotShown m) ↔ IsFirstNotShown given steps m
step_when_refuted given steps shown m = (λ e. absurd cc, λ h. absurd (not_all_shown given steps m h shown))
