-- What the parts of the command `core` say of the whole.
use Rattle.std.proofs.Common.{◌⊎◌, inl, inr, ℕ, List, Option}
use Rattle.std.specs.Prelude.{IfOk, IsTrue, Result, Ok, Err}
use Rattle.inst_logic.specs.declared.clause.Problem.{Problem}
use Rattle.inst_logic.specs.Measure.{is_function_free}
use Rattle.outside_io.specs.declared.library.NamedFile.{NamedFile}
use Rattle.tptp_load.specs.Problems.{IsGoodProblem}
use Rattle.szs_prove.specs.Answers.{IsProblemOf}
use Rattle.szs_prove.specs.CoreAnswers.{HasCoreAnswer}
use Rattle.szs_prove.specs.CoreTexts.{IsCoreText, IsNoCoreText}
use Rattle.szs_prove.specs.SubProblems.{IsDecidable}
use Rattle.szs_prove.proofs.Loaded.{printable_problem}

pub loaded_is_decidable : (p : Problem) → IsGoodProblem p → IsTrue (is_function_free p.clauses) → IsDecidable p
loaded_is_decidable p good free = record { printable = printable_problem p good; function_free = free }

module _ {E : Type 0} (p : Problem) (file : List ℕ) where
  pub core_or_none : (r : Result (List ℕ) E) → IfOk r (IsCoreText p file) → IfOk r (λ text. IsCoreText p file text ⊎ IsNoCoreText p file text)
  core_or_none (Ok text) h = inl h
  core_or_none (Err e) h = tt

  pub none_or_core : (r : Result (List ℕ) E) → IfOk r (IsNoCoreText p file) → IfOk r (λ text. IsCoreText p file text ⊎ IsNoCoreText p file text)
  none_or_core (Ok text) h = inr h
  none_or_core (Err e) h = tt

  pub core_answers : (files : Option (List NamedFile)) (root : Option (List ℕ)) → IsProblemOf files file root p → (r : Result (List ℕ) E)
      → IfOk r (λ text. IsTrue (is_function_free p.clauses) × (IsCoreText p file text ⊎ IsNoCoreText p file text)) → IfOk r (HasCoreAnswer files file root)
  core_answers files root is (Ok text) h = (p, is, h.0, h.1)
  core_answers files root is (Err e) h = tt
