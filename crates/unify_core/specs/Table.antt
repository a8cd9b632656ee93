-- Terms by variables, with the place of each variable among them noted by its number.
use Rattle.std.specs.Prelude.{◌≡◌, ℕ, ◌^◌, ◌<◌, List, length, Bool, Option, slice_index_or}
use Rattle.std.specs.Map.{lookup}
use Rattle.unify_core.specs.Sides.{Binding, variable_number}
use Rattle.unify_core.specs.Passed.{no_binding}
use Rattle.unify_core.specs.declared.side.Variable.{Variable}
use Rattle.unify_core.specs.declared.side.Bound.{Bound}
use Rattle.unify_core.specs.contracts.side.VariablePartialEq.TheImpl as variable

-- what contracts see of a table: each variable with its term, in order
pub record Bound_table : Type 0 where
  pub entries : List Binding

abbrev pub variable_eq : Variable → Variable → Bool
variable_eq = (variable.ghosts).eq

-- what the variable is bound to
abbrev pub bound_of : Variable → List Binding → Option Bound
bound_of x es = lookup (variable_eq x) es

-- variables with a number from here on have no place
abbrev pub most_placed : ℕ
most_placed = 2 ^ 22

-- the place is noted at the variable's number, unless that is too large
abbrev pub IsPlacedAt : List ℕ → ℕ → Variable → Type 0
IsPlacedAt places i x = variable_number x < most_placed → (variable_number x < length places) × (slice_index_or places (variable_number x) 0 ≡ i)

-- the place of each bound variable is noted
abbrev pub ArePlaces : List Binding → List ℕ → Type 0
ArePlaces es places = (i : ℕ) → i < length es → IsPlacedAt places i (slice_index_or es i no_binding).0
