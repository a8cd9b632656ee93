-- The variables that a walk meets, in order.
use Rattle.std.specs.Prelude.{ℕ, List, Bool}
use Rattle.std.specs.List.{position_or_len}
use Rattle.indexmap.specs.IndexSet.{insert_key}
use Rattle.unify_core.specs.contracts.side.VariablePartialEq.TheImpl as variable
use Rattle.unify_core.specs.declared.side.Variable.{Variable}

-- whether a variable is this one
abbrev pub is_variable : Variable → Variable → Bool
is_variable x = (variable.ghosts).eq x

-- the variables after one more is met
abbrev pub with_variable : List Variable → Variable → List Variable
with_variable xs x = insert_key is_variable xs x

-- the number of the variable: its place, or that of the next
abbrev pub number_in : List Variable → Variable → ℕ
number_in xs x = position_or_len (is_variable x) xs
