-- Why a problem that was loaded has no answer is why the problem of its file has none.
use Rattle.std.proofs.Common.{ℕ, List, Option}
use Rattle.std.specs.Prelude.{IfErr, Result, Ok, Err}
use Rattle.inst_logic.specs.declared.clause.Problem.{Problem}
use Rattle.szs_prove.specs.Answers.{IsProblemOf, IsRefusal, IsUnanswered, IsUnloaded, Reading, ReasonRelation}
use Rattle.szs_prove.specs.declared.refusal.Refusal.{Refusal}
use Rattle.szs_prove.specs.declared.refusal.Refusal.TheVariants.{Load, Unanswered, Memory}

module _ (bars : ReasonRelation) (read : Reading) (file : List ℕ) (root : Option (List ℕ)) where
  unanswered_refusal : (p : Problem) (why : Refusal) → IsProblemOf read.old.files file root p → IsUnanswered bars p why → IsRefusal bars read file root why
  unanswered_refusal p (Load e) is h = absurd h
  unanswered_refusal p (Unanswered reason) is h = (p, is, h)
  unanswered_refusal p Memory is h = tt

  pub all_refusals : {T : Type 0} (p : Problem) → IsProblemOf read.old.files file root p → (r : Result T Refusal) → IfErr r (IsUnanswered bars p) → IfErr r (IsRefusal bars read file root)
  all_refusals p is (Ok text) h = tt
  all_refusals p is (Err why) h = unanswered_refusal p why is h

  pub load_refusal : (why : Refusal) → IsUnloaded read file root why → IsRefusal bars read file root why
  load_refusal (Load e) h = h
  load_refusal (Unanswered reason) h = absurd h
  load_refusal Memory h = tt
