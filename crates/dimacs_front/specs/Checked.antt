-- Derivations that the checker has accepted.
use Rattle.std.specs.Prelude.{◌≡◌, ℕ, List, [], Option, None, Some}
use Rattle.inst_logic.specs.declared.signed.Signed.{Signed}
use Rattle.prop_logic.specs.Literal.{IsShownDerivation}
use Rattle.prop_logic.specs.Solving.{EndsWith}
use Rattle.prop_logic.specs.declared.literal.Step.{Step}

-- clauses, and steps from them
pub record Checked : Type 0 where
  pub clauses : List (List (Signed ℕ))
  pub steps : List Step

-- the clauses and the steps where each step is shown and the last is empty, and else nothing
abbrev pub IsChecked : List (List (Signed ℕ)) → List Step → Option Checked → Type 0
IsChecked clauses steps (Some checked) = checked ≡ record { clauses = clauses; steps = steps }
IsChecked clauses steps None = ¬ (IsShownDerivation clauses steps × EndsWith steps [])
