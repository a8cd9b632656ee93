-- What is left of the walk for the symbols of a tree, as a list of steps whose first one comes first.
use Rattle.std.specs.Prelude.{◌≡◌, ℕ, ◌+◌, ◌*◌, ◌<◌, List, [], ◌∷◌, All, Contains, fold, length}
use Rattle.inst_logic.specs.declared.symbol.Sym.{Sym}
use Rattle.inst_logic.specs.Equal.{sym_eq}
use Rattle.inst_logic.specs.Lists.{with_item}
use Rattle.inst_logic.specs.Measure.{tree_size}
use Rattle.inst_logic.specs.Tree.{Tree}
use Rattle.inst_calculus.specs.Axioms.{tree_symbols}
use Rattle.term_bank.specs.Forest.{Forest, tree_at}
use Rattle.cert_check.specs.declared.walk.Step.{Step}
use Rattle.cert_check.specs.declared.walk.Step.TheVariants.{Visit, Close}

-- the symbols, and then those of the tree that are new
abbrev pub with_symbols : List Sym → Tree → List Sym
with_symbols found t = fold (with_item sym_eq) found (tree_symbols t)

-- the symbols of the tree are found
abbrev pub AreFound : List Sym → Tree → Type 0
AreFound found t = All (Contains found) (tree_symbols t)

-- the symbols of each node's tree are found
abbrev pub AreClosed : Forest → List Sym → List ℕ → Type 0
AreClosed f found ids = All (λ id. AreFound found (tree_at f id)) ids

-- the steps lead from the symbols found to those at the end, and what is closed by then has its symbols found
abbrev pub Leads : Forest → List Step → (found end : List Sym) → Type 0
Leads f [] found end = found ≡ end
Leads f (Visit id ∷ rest) found end = (id < length f.trees) × Leads f rest (with_symbols found (tree_at f id)) end
Leads f (Close id ∷ rest) found end = AreFound found (tree_at f id) × Leads f rest found end

abbrev pub step_size : Forest → Step → ℕ
step_size f (Visit id) = 2 * tree_size (tree_at f id)
step_size f (Close id) = 1

-- how much work is left at most
abbrev pub steps_size : Forest → List Step → ℕ
steps_size f [] = 0
steps_size f (s ∷ ss) = step_size f s + steps_size f ss
