-- Answers to whether a clause is an instance of another one.
use Rattle.std.specs.Prelude.{◌≡◌, ◌↔◌, ℕ, Bool, IsTrue, List}
use Rattle.inst_logic.specs.declared.signed.Signed.{Signed}
use Rattle.inst_logic.specs.Clauses.{canonical_form, instance}
use Rattle.inst_logic.specs.Unifiers.{Sided}
use Rattle.term_bank.specs.Forest.{Forest, clause_at}
use Rattle.unify_core.specs.Sides.{Binding, IsResolvedBy, of_side}
use Rattle.unify_core.specs.declared.side.Side.{Side}

-- the answer is whether the second clause is the instance of the first on the side
abbrev pub IsInstanceOf : Forest → List Binding → Side → List (Signed ℕ) → List (Signed ℕ) → Bool → Type 0
IsInstanceOf f es x c d r = (s : Sided) → IsResolvedBy f es s → IsTrue r ↔ (clause_at f d ≡ canonical_form (instance (of_side s x) (clause_at f c)))
