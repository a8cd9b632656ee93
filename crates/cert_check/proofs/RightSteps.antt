-- Right steps, by their numbers, over numbers and over trees.
use Rattle.std.proofs.Common.{◌≡◌, ◌≢◌, ℕ, zero, suc, ◌+◌, ◌-◌, ◌<◌, ◌≤◌, List, [], sym, ◌∙◌, take, subst, arith, inl, inr, length, get_or, None, Some}
use Rattle.std.specs.Prelude.{slice_get, ◌↔◌}
use Rattle.std.proofs.lemmas.Bool.{cases_lt}
use Rattle.std.proofs.lemmas.Option.{same_Some, slice_get_past}
use Rattle.inst_logic.specs.declared.signed.Signed.{Signed}
use Rattle.inst_logic.specs.Derivations.{at_number}
use Rattle.prop_logic.specs.Literal.{IsShownStep}
use Rattle.prop_logic.specs.declared.literal.Step.{Step}
use Rattle.proof_log.specs.Shown.{IsShownNumber}
use Rattle.cert_check.specs.Numbered.{IsRightNumber}
use Rattle.cert_check.proofs.Rightness.{item_there}

-- the step at place i, counted from 0
module _ (given : List (List (Signed ℕ))) (steps : List Step) (i : ℕ) (s : Step) (within : i < length steps) (is : s ≡ get_or steps i s) where
  there : at_number steps (i + 1) ≡ Some s
  there = item_there steps i s within is

  pub unhinted_wrong : s.hints ≡ [] → ¬ IsRightNumber given steps (i + 1)
  unhinted_wrong e right = (right s there).0 e

  pub shown_is_right : s.hints ≢ [] → IsShownNumber given steps (i + 1) ↔ IsRightNumber given steps (i + 1)
  shown_is_right hinted = (
    (λ (t, at, shown) u e.
        subst (λ (x : Step). (x.hints ≢ []) × IsShownStep given (take (i + 1 - 1) steps) x) (same_Some s u (sym there ∙ e))
        (hinted, subst (λ (x : Step). IsShownStep given (take (i + 1 - 1) steps) x) (same_Some t s (sym at ∙ there)) shown)),
    (λ right. (s, there, (right s there).1)),
  )

-- no step is wrong past the last one
pub all_numbers : (given : List (List (Signed ℕ))) (steps : List Step) (n : ℕ) → length steps ≤ n → ((m : ℕ) → m < n + 1 → IsRightNumber given steps m) → (m : ℕ) → IsRightNumber given steps m
all_numbers given steps n h f m = elim (cases_lt m (n + 1)) [ inl l ↦ f m l | inr g ↦ beyond m g ]
  where
    beyond : (k : ℕ) → n + 1 ≤ k → IsRightNumber given steps k
    beyond zero g s at = absurd (omega arith)
    beyond (suc k) g s at = let none : slice_get steps k ≡ None = slice_get_past steps k (omega arith) in absurd (cc)
