-- Symbols with too many arguments, in lists of trees.
use Rattle.std.proofs.Common.{◌≡◌, List, [], ◌∷◌, refl, ap}
use Rattle.std.specs.Prelude.{◌||◌}
use Rattle.std.specs.List.{list_any}
use Rattle.inst_logic.specs.Tree.{Tree, of_list}
use Rattle.tptp_read.specs.Gathered.{tree_wide, trees_wide}

pub trees_wide_any : (ts : List Tree) → trees_wide (of_list ts) ≡ list_any tree_wide ts
trees_wide_any [] = refl
trees_wide_any (t ∷ ts) = ap (λ b. tree_wide t || b) (trees_wide_any ts)
