-- The strategy that clauses with selected literals hold where they make a formula's translation true: what their truth test says of
-- the atoms of the existential variables.
use Rattle.std.specs.Prelude.{◌≡◌, ◌↔◌, ℕ, List, true, if◌then◌else◌}
use Rattle.inst_logic.specs.Substitution.{Substitution, subst}
use Rattle.inst_calculus.specs.Models.{SelectedClause, IsTrueBy}
use Rattle.qbf_logic.specs.declared.quant.Quant.{Quant}
use Rattle.qbf_logic.specs.Formulas.{Values}
use Rattle.qbf_logic.specs.Translation.{universal, role, atom_of, true_element, false_element}

-- `t` in the place of a variable that is true, and `f` in that of another
abbrev pub elements : Values → Substitution
elements values u = if values u then true_element else false_element

-- some quantifier asks for both values of the variable
abbrev pub IsUniversal : List Quant → ℕ → Type 0
IsUniversal prefix n = role prefix n ≡ universal

-- Each other variable has the value of its atom at the values of the universal variables before it.
abbrev pub FollowsStrategy : List SelectedClause → List Quant → Values → Type 0
FollowsStrategy ms prefix values = (n : ℕ) → ¬ IsUniversal prefix n → (values n ≡ true) ↔ IsTrueBy ms (subst (elements values) (atom_of prefix n))
