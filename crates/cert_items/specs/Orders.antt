-- Variables in the order of their first occurrences.
use Rattle.std.specs.Prelude.{ℕ, suc, List, [], ◌∷◌, ◌++◌, Bool, true, false, nat_eq, ltb, ◌+◌, if◌then◌else◌}
use Rattle.inst_logic.specs.Measure.{tree_size}
use Rattle.inst_logic.specs.Substitution.{tree_vars}
use Rattle.term_bank.specs.Forest.{Forest, tree_at}

-- each number is below n or n itself, which is counted on then
abbrev pub in_order : ℕ → List ℕ → Bool
in_order n [] = true
in_order n (v ∷ vs) = if ltb v n then in_order n vs else if nat_eq v n then in_order (suc n) vs else false

-- the variables of these trees, one after another
abbrev pub ids_vars : Forest → List ℕ → List ℕ
ids_vars f [] = []
ids_vars f (id ∷ ids) = tree_vars (tree_at f id) ++ ids_vars f ids

-- how much of the walk is left at most
abbrev pub ids_size : Forest → List ℕ → ℕ
ids_size f [] = 0
ids_size f (id ∷ ids) = tree_size (tree_at f id) + ids_size f ids
