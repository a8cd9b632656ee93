use Rattle.std.proofs.Common.{◌≡◌, ℕ, List, [], refl, sym, ◌∙◌, subst}
use Rattle.std.proofs.lemmas.Bool.{false≢true}
use Rattle.inst_logic.specs.declared.signed.Signed.{Signed}
use Rattle.prop_logic.specs.declared.literal.Step.{Step}
use Rattle.prop_logic.specs.Literal.{IsShownDerivation}
use Rattle.prop_logic.specs.Solving.{EndsWith}
use Rattle.proof_log.specs.Shown.{IsFirstNotShown}
use Rattle.proof_log.proofs.Steps.{not_all_shown, derivation_refutes}
use Rattle.proof_log.proofs.Verdicts.{step_when_not_shown, not_empty_when_not_shown, step_when_not_empty, step_when_refuted}
use Rattle.proof_log.proofs.checker.Checker.refutes.Goals as goal

-- what was said of slices is said of the lists that they are
moved : (P : List (List (Signed ℕ)) → List Step → Type 0) {g given : List (List (Signed ℕ))} {xs steps : List Step} → g ≡ given → xs ≡ steps → P g xs → P given steps
moved P {g} {given} {xs} {steps} e f h = subst (λ k. P k steps) e (subst (λ ys. P g ys) f h)

-- the first step that is not shown
first : (c : goal.In-Some) → IsFirstNotShown c.args.given.now c.args.derivation.now c.in-Some.n
first c = moved (λ g xs. IsFirstNotShown g xs c.in-Some.n) c.as_slice.ensures c.as_slice-steps.ensures c.in-Some.ensures.first

pub returns-in-Some-clause-ok : goal.returns-in-Some-clause-ok
returns-in-Some-clause-ok c = (λ e. absurd (false≢true e), λ h. absurd (not_all_shown c.args.given.now c.args.derivation.now c.in-Some.n (first c) h.0))

pub returns-in-Some-clause-step : goal.returns-in-Some-clause-step
returns-in-Some-clause-step c = step_when_not_shown c.args.given.now c.args.derivation.now c.in-Some.n (first c)

pub returns-in-Some-clause-not_empty : goal.returns-in-Some-clause-not_empty
returns-in-Some-clause-not_empty c = not_empty_when_not_shown c.args.given.now c.args.derivation.now c.in-Some.n (first c)

pub returns-then-not-ends_empty-clause-step : goal.returns-then-not-ends_empty-clause-step
returns-then-not-ends_empty-clause-step c =
    step_when_not_empty c.args.given.now c.args.derivation.now (moved IsShownDerivation c.as_slice.ensures c.as_slice-steps.ensures c.in_default.ensures.first)

pub returns-then-not-ends_empty-clause-not_empty : goal.returns-then-not-ends_empty-clause-not_empty
returns-then-not-ends_empty-clause-not_empty c = (
  λ _. (
    moved IsShownDerivation c.as_slice.ensures c.as_slice-steps.ensures c.in_default.ensures.first,
    λ last. false≢true (sym c.if-not-ends_empty.true ∙ c.ends_empty.ensures.1 (subst (λ xs. EndsWith xs []) (sym c.as_slice-steps.ensures) last)),
  ),
  λ _. refl,
)

-- all steps are shown, and the last one is empty
shown : (c : goal.Else-not-ends_empty) → IsShownDerivation c.args.given.now c.args.derivation.now
shown c = moved IsShownDerivation c.as_slice.ensures c.as_slice-steps.ensures c.in_default.ensures.first

last : (c : goal.Else-not-ends_empty) → EndsWith c.args.derivation.now []
last c = subst (λ xs. EndsWith xs []) c.as_slice-steps.ensures (c.ends_empty.ensures.0 c.if-not-ends_empty.false)

pub returns-clause-ok : goal.returns-clause-ok
returns-clause-ok c = (λ _. (shown c, last c), λ _. refl)

pub returns-clause-step : goal.returns-clause-step
returns-clause-step c = step_when_refuted c.args.given.now c.args.derivation.now (shown c)

pub returns-clause-refuted : goal.returns-clause-refuted
returns-clause-refuted c = derivation_refutes c.args.given.now c.args.derivation.now (shown c) (last c)
