-- What a tree is at its root.
use Rattle.std.specs.Prelude.{◌≡◌, ℕ, ◌<◌, map}
use Rattle.std.specs.List.{All}
use Rattle.inst_logic.specs.Tree.{Tree, var, app, of_list}
use Rattle.term_bank.specs.Forest.{Forest, tree_at}
use Rattle.term_bank.specs.declared.bank.Shape.{Shape}
use Rattle.term_bank.specs.declared.bank.Shape.TheVariants.{Var, App}
use Rattle.term_bank.specs.declared.bank.Root.{Root}
use Rattle.term_bank.specs.declared.bank.Root.TheVariants.{Var as Variable, App as Application}

-- the number of a variable, or an application
abbrev pub shape_of : Tree → Shape
shape_of (var v) = Var v
shape_of (app s ts) = App

-- the tree of the id is this variable, or this symbol applied to the trees of these ids, each of which is smaller
abbrev pub IsRootOf : Forest → ℕ → Root → Type 0
IsRootOf f id (Variable v) = tree_at f id ≡ var v
IsRootOf f id (Application s args) = (tree_at f id ≡ app s.now (of_list (map (tree_at f) args.now))) × All (λ i. i < id) args.now
