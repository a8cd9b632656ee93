-- Steps by their numbers, counted from 1.
use Rattle.std.specs.Prelude.{◌≡◌, ℕ, ◌-◌, ◌<◌, List, take, Some}
use Rattle.inst_logic.specs.declared.signed.Signed.{Signed}
use Rattle.inst_logic.specs.Derivations.{at_number}
use Rattle.prop_logic.specs.declared.literal.Step.{Step}
use Rattle.prop_logic.specs.Literal.{IsShownStep}

-- there is a step number n, and it is shown from the given clauses and the steps before it
abbrev pub IsShownNumber : List (List (Signed ℕ)) → List Step → ℕ → Type 0
IsShownNumber given steps n = (s : Step) × (at_number steps n ≡ Some s) × IsShownStep given (take (n - 1) steps) s

-- there is a step number n, it is not shown, and every step before it is
abbrev pub IsFirstNotShown : List (List (Signed ℕ)) → List Step → ℕ → Type 0
IsFirstNotShown given steps n = (s : Step) × (at_number steps n ≡ Some s) × (¬ IsShownStep given (take (n - 1) steps) s) × ((k : ℕ) → 0 < k → k < n → IsShownNumber given steps k)
