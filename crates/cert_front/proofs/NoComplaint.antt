-- Where every check is passed there is no complaint.
use Rattle.std.proofs.Common.{◌≡◌, refl, sym, subst, Result, Ok, Err, IfOk}
use Rattle.std.specs.Prelude.{IsErr, MatchResult}
use Rattle.std.proofs.lemmas.Result.{IfOk-weaker}
use Rattle.inst_logic.specs.declared.memory.Memory.{Memory}
use Rattle.cert_format.specs.declared.complaint.Complaint.{Complaint}
use Rattle.cert_check.specs.Answers.{IsCheckCause}
use Rattle.cert_check.specs.declared.error.CheckError.{CheckError}
use Rattle.cert_check.specs.declared.error.CheckError.TheVariants as errors

pub only_memory : (Passes : Complaint → Type 0) (e : CheckError) → ((k : Complaint) → Passes k) → IsCheckCause Passes e → e ≡ errors.Memory
only_memory Passes (errors.Complaint k) all h = absurd (h.applies (all k))
only_memory Passes errors.Memory all h = refl

-- whatever else is checked, then there is no complaint about it either
pub never_complains : (Passes Others : Complaint → Type 0) (e : CheckError) → ((k : Complaint) → Passes k) → IsCheckCause Passes e → IsCheckCause Others e
never_complains Passes Others (errors.Complaint k) all h = absurd (h.applies (all k))
never_complains Passes Others errors.Memory all h = tt

-- what holds of the checked one holds of the accepted one
pub accepted_too : {T : Type 0} (P : T → Type 0) (r : Result T CheckError) (s : Result T Memory) → MatchResult r (λ t. IfOk s (λ u. u ≡ t)) (λ _. IsErr s) → IfOk r P → IfOk s P
accepted_too P (Ok t) s same h = IfOk-weaker s _ P (λ u e. subst P (sym e) h) same
accepted_too P (Err e) (Ok u) none h = absurd cc
accepted_too P (Err e) (Err m) none h = tt
