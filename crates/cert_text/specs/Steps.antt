-- What is left of the printing of interned terms, as a list of steps whose last one comes first.
use Rattle.std.specs.Prelude.{ℕ, ◌+◌, ◌*◌, ◌<◌, List, [], ◌∷◌, ◌++◌, length}
use Rattle.inst_logic.specs.Measure.{tree_size}
use Rattle.inst_logic.specs.Printing.{tree_text}
use Rattle.term_bank.specs.Forest.{Forest, tree_at}
use Rattle.cert_text.specs.declared.walk.Step.{Step}
use Rattle.cert_text.specs.declared.walk.Step.TheVariants.{Print, PrintNext, Close}
use Rattle.inst_logic.specs.Codes as byte

-- what a step prints
abbrev pub step_text : Forest → Step → List ℕ
step_text f (Print id) = tree_text (tree_at f id)
step_text f (PrintNext id) = byte.comma ∷ tree_text (tree_at f id)
step_text f Close = byte.closing_parenthesis ∷ []

-- what all steps print
abbrev pub steps_text : Forest → List Step → List ℕ
steps_text f [] = []
steps_text f (s ∷ ss) = steps_text f ss ++ step_text f s

abbrev pub step_size : Forest → Step → ℕ
step_size f (Print id) = 2 * tree_size (tree_at f id)
step_size f (PrintNext id) = 2 * tree_size (tree_at f id)
step_size f Close = 1

-- how much work is left
abbrev pub steps_size : Forest → List Step → ℕ
steps_size f [] = 0
steps_size f (s ∷ ss) = step_size f s + steps_size f ss

-- its term is in the bank
abbrev pub IsStep : Forest → Step → Type 0
IsStep f (Print id) = id < length f.trees
IsStep f (PrintNext id) = id < length f.trees
IsStep f Close = Unit {0}

-- each step's term is in the bank
abbrev pub AreSteps : Forest → List Step → Type 0
AreSteps f [] = Unit {0}
AreSteps f (s ∷ ss) = IsStep f s × AreSteps f ss
