-- What hints cite, and derivations over numbered atoms.
use Rattle.std.specs.Prelude.{ℕ, ◌<◌, List, map, Option, All}
use Rattle.inst_logic.specs.declared.signed.Signed.{Signed}
use Rattle.inst_logic.specs.Derivations.{at_number, IsShown, AreShown}
use Rattle.prop_logic.specs.declared.literal.Hint.{Hint}
use Rattle.prop_logic.specs.declared.literal.Hint.TheVariants.{Added, Step as Earlier}
use Rattle.prop_logic.specs.declared.literal.Step.{Step}

-- the clause that a hint cites, if it is an added one or that of an earlier step
abbrev pub cited : List (List (Signed ℕ)) → List Step → Hint → Option (List (Signed ℕ))
cited given earlier (Added n) = at_number given n
cited given earlier (Earlier n) = at_number (map (λ s. s.clause) earlier) n

-- what the hints of a step cite
abbrev pub all_cited : List (List (Signed ℕ)) → List Step → Step → List (Option (List (Signed ℕ)))
all_cited given earlier step = map (cited given earlier) step.hints

-- the step is shown from the given clauses and the earlier steps
abbrev pub IsShownStep : List (List (Signed ℕ)) → List Step → Step → Type 0
IsShownStep given earlier step = IsShown step.clause (all_cited given earlier step)

-- every step is shown from the given clauses and the steps before it
abbrev pub IsShownDerivation : List (List (Signed ℕ)) → List Step → Type 0
IsShownDerivation given steps = AreShown (λ s. s.clause) (all_cited given) steps

-- the atoms of the clause are below n
abbrev pub AtomsBelow : ℕ → List (Signed ℕ) → Type 0
AtomsBelow n clause = All (λ l. l.atom < n) clause

abbrev pub AllAtomsBelow : ℕ → List (List (Signed ℕ)) → Type 0
AllAtomsBelow n clauses = All (AtomsBelow n) clauses

abbrev pub StepsBelow : ℕ → List Step → Type 0
StepsBelow n steps = All (λ s. AtomsBelow n s.clause) steps
