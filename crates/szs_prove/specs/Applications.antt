-- Function symbols with arguments, and the first clause that has one.
use Rattle.std.specs.Prelude.{ℕ, ◌≡◌, ◌-◌, List, Bool, false, not, nat_eq, take, Some, IsTrue}
use Rattle.std.specs.List.{list_any}
use Rattle.inst_logic.specs.Tree.{Tree, var, app, to_list}
use Rattle.inst_logic.specs.Clauses.{TreeClause}
use Rattle.inst_logic.specs.Derivations.{at_number}
use Rattle.inst_logic.specs.Measure.{clause_applies, is_function_free}

-- a symbol with arguments
abbrev pub is_application : Tree → Bool
is_application (var n) = false
is_application (app s ts) = not (nat_eq s.arity 0)

-- an argument of the atom is a symbol with arguments
abbrev pub atom_has_application : Tree → Bool
atom_has_application (var n) = false
atom_has_application (app s ts) = list_any is_application (to_list ts)

-- clause k has a function symbol with arguments, and the clauses before it have none
pub record IsFirstWithFunctions (cs : List TreeClause) (k : ℕ) : Type 0 where
  pub clause : TreeClause
  pub is : at_number cs k ≡ Some clause
  pub applies : IsTrue (clause_applies clause)
  pub first : IsTrue (is_function_free (take (k - 1) cs))
