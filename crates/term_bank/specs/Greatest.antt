-- The greatest number of a list, and the greatest number of a variable of a tree.
use Rattle.std.specs.Prelude.{◌≡◌, ℕ, ◌≤◌, max, List, [], Option, Some, None, All, Contains}
use Rattle.inst_logic.specs.Tree.{Tree, var, app, Trees, none, more}

-- it is in the list and no number of the list is greater, and None is for the empty list
abbrev pub IsGreatest : List ℕ → Option ℕ → Type 0
IsGreatest vs None = vs ≡ []
IsGreatest vs (Some v) = Contains vs v × All (λ w. w ≤ v) vs

-- the greater of the two, where None is below each number
abbrev pub greater : Option ℕ → Option ℕ → Option ℕ
greater None b = b
greater (Some v) None = Some v
greater (Some v) (Some w) = Some (max v w)

-- the greatest number of a variable
abbrev mutual
  pub greatest_variable : Tree → Option ℕ
  greatest_variable (var v) = Some v
  greatest_variable (app s ts) = greatest_variables ts

  pub greatest_variables : Trees → Option ℕ
  greatest_variables none = None
  greatest_variables (more t ts) = greater (greatest_variable t) (greatest_variables ts)
