-- What is left of the printing of terms, as a list of steps whose last one comes first.
use Rattle.std.specs.Prelude.{ℕ, ◌+◌, ◌*◌, List, [], ◌∷◌, ◌++◌}
use Rattle.inst_logic.specs.Codes as byte
use Rattle.inst_logic.specs.View.{tree}
use Rattle.inst_logic.specs.Measure.{tree_size}
use Rattle.inst_logic.specs.Printing.{tree_text}
use Rattle.tptp_write.specs.declared.terms.Step.{Step}
use Rattle.tptp_write.specs.declared.terms.Step.TheVariants.{Print, PrintNext, Close}

-- what a step prints
abbrev pub step_text : Step → List ℕ
step_text (Print t) = tree_text (tree t.now)
step_text (PrintNext t) = byte.comma ∷ tree_text (tree t.now)
step_text Close = byte.closing_parenthesis ∷ []

-- what all steps print
abbrev pub steps_text : List Step → List ℕ
steps_text [] = []
steps_text (s ∷ ss) = steps_text ss ++ step_text s

abbrev pub step_size : Step → ℕ
step_size (Print t) = 2 * tree_size (tree t.now)
step_size (PrintNext t) = 2 * tree_size (tree t.now)
step_size Close = 1

-- how much work is left
abbrev pub steps_size : List Step → ℕ
steps_size [] = 0
steps_size (s ∷ ss) = step_size s + steps_size ss
