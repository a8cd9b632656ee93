-- Steps over ids as steps over numbers, and those that are right.
use Rattle.std.specs.Prelude.{◌≡◌, ◌≢◌, ◌-◌, ℕ, List, [], map, take, Some}
use Rattle.inst_logic.specs.declared.signed.Signed.{Signed}
use Rattle.inst_logic.specs.Derivations.{at_number}
use Rattle.prop_logic.specs.Literal.{IsShownStep}
use Rattle.prop_logic.specs.declared.literal.Hint.{Hint}
use Rattle.prop_logic.specs.declared.literal.Hint.TheVariants.{Added, Step as Earlier}
use Rattle.prop_logic.specs.declared.literal.Step.{Step}
use Rattle.cert_values.specs.declared.certificate.GroundHint.{GroundHint}
use Rattle.cert_values.specs.declared.certificate.GroundHint.TheVariants.{Ground, Step as Before}
use Rattle.cert_values.specs.declared.certificate.GroundStep.{GroundStep}

abbrev pub numbered_hint : GroundHint → Hint
numbered_hint (Ground n) = Added n
numbered_hint (Before n) = Earlier n

abbrev pub numbered_step : GroundStep → Step
numbered_step s = record { clause = s.clause; hints = map numbered_hint s.hints }

-- where there is a step n, it has a hint and is shown
abbrev pub IsRightNumber : List (List (Signed ℕ)) → List Step → ℕ → Type 0
IsRightNumber given steps n = (s : Step) → at_number steps n ≡ Some s → (s.hints ≢ []) × IsShownStep given (take (n - 1) steps) s
