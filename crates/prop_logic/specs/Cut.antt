-- Derivations without the steps that their last step does not need.
use Rattle.std.specs.Prelude.{ℕ, List}
use Rattle.inst_logic.specs.declared.signed.Signed.{Signed}
use Rattle.prop_logic.specs.declared.literal.Step.{Step}
use Rattle.prop_logic.specs.Solving.{EndsWith}
use Rattle.prop_logic.specs.Search.{AreGood}

-- whatever good derivation the steps are, the kept ones are one that ends with the same literals
abbrev pub IsCutOf : List Step → List Step → Type 0
IsCutOf steps kept = (clauses : List (List (Signed ℕ))) (n : ℕ) (literals : List (Signed ℕ)) → AreGood clauses n steps → EndsWith steps literals → AreGood clauses n kept × EndsWith kept literals
