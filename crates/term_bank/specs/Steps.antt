-- What is left of the interning of trees, as a list of steps whose last one comes first.
use Rattle.std.specs.Prelude.{ℕ, ◌+◌, ◌-◌, ◌*◌, List, [], ◌∷◌, ◌++◌, length, take, drop}
use Rattle.inst_logic.specs.declared.symbol.Sym.{Sym}
use Rattle.inst_logic.specs.Tree.{Tree, app, of_list}
use Rattle.inst_logic.specs.View.{tree}
use Rattle.inst_logic.specs.Measure.{tree_size}
use Rattle.term_bank.specs.declared.walk.Step.{Step}
use Rattle.term_bank.specs.declared.walk.Step.TheVariants.{Visit, Apply}

-- the symbol takes the place of so many trees at the end, which become its arguments
abbrev pub applied : Sym → ℕ → List Tree → List Tree
applied s n ts = take (length ts - n) ts ++ app s (of_list (drop (length ts - n) ts)) ∷ []

-- the trees after a step
abbrev pub done : Step → List Tree → List Tree
done (Visit t) ts = ts ++ tree t.now ∷ []
done (Apply s n) ts = applied s.now n ts

-- the trees after all steps
abbrev pub all_done : List Step → List Tree → List Tree
all_done [] ts = ts
all_done (s ∷ ss) ts = done s (all_done ss ts)

abbrev pub step_size : Step → ℕ
step_size (Visit t) = 2 * tree_size (tree t.now)
step_size (Apply s n) = 1

-- how much work is left
abbrev pub steps_size : List Step → ℕ
steps_size [] = 0
steps_size (s ∷ ss) = step_size s + steps_size ss
