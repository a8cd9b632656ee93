-- Steps whose clauses and hints are kept apart.
use Rattle.std.specs.Prelude.{ℕ, List, [], ◌∷◌}
use Rattle.inst_logic.specs.declared.signed.Signed.{Signed}
use Rattle.prop_logic.specs.declared.literal.Hint.{Hint}
use Rattle.prop_logic.specs.declared.literal.Step.{Step}

-- the first clause with the first hints, and so on
abbrev pub steps_of : List (List (Signed ℕ)) → List (List Hint) → List Step
steps_of [] hints = []
steps_of (c ∷ cs) [] = []
steps_of (c ∷ cs) (h ∷ hs) = record { clause = c; hints = h } ∷ steps_of cs hs
