-- What variables are bound to, where the literals of a part were matched onto its canonical form.
use Rattle.std.specs.Prelude.{◌≡◌, ◌⊎◌, ℕ, ◌<◌, List, length, slice_index_or, map}
use Rattle.std.specs.Map.{keys_of}
use Rattle.inst_logic.specs.declared.signed.Signed.{Signed}
use Rattle.inst_logic.specs.Clauses.{numbered, order_of}
use Rattle.inst_logic.specs.Substitution.{Substitution, clause_vars, subst_literal}
use Rattle.term_bank.specs.Forest.{Forest, clause_at}
use Rattle.unify_core.specs.Lists.{◌∈◌}
use Rattle.unify_core.specs.Matching.{AreMatches, Agrees, IsBound}
use Rattle.unify_core.specs.Sides.{Binding}
use Rattle.unify_core.specs.declared.side.Bound.{Bound}
use Rattle.unify_core.specs.declared.side.Side.TheVariants.{Left}

-- the variables of the clause by their places in it
abbrev pub renumbering : Forest → List (Signed ℕ) → Substitution
renumbering f kept = numbered (order_of (clause_at f kept))

-- each literal with its variables renumbered, in order
abbrev pub IsRenumbered : Forest → List (Signed ℕ) → List (Signed ℕ) → Type 0
IsRenumbered f kept part = clause_at f part ≡ map (subst_literal (renumbering f kept)) (clause_at f kept)

-- these variables are bound, each to what the substitution makes of it
pub record AreBoundBy (f : Forest) (s : Substitution) (vars : List ℕ) (es : List Binding) : Type 0 where
  pub matches : AreMatches f es
  pub agrees : Agrees f s es
  pub bound : (v : ℕ) → v ∈ vars → IsBound es v
  pub only : (e : Binding) → e ∈ es → e.0.var ∈ vars

-- the variables of the clause are bound to those that they become
abbrev pub AreBound : Forest → List (Signed ℕ) → List Binding → Type 0
AreBound f kept es = AreBoundBy f (renumbering f kept) (clause_vars (clause_at f kept)) es

-- the term to which left variable v is bound, or the constant
abbrev pub IsBoundTerm : List Binding → ℕ → ℕ → ℕ → Type 0
IsBoundTerm es constant v id =
    ((b : Bound) × ((record { side = Left; var = v }, b) ∈ es) × (id ≡ b.term)) ⊎ ((¬ ((record { side = Left; var = v }) ∈ keys_of es)) × (id ≡ constant))

-- one for each of so many variables
pub record AreBoundTerms (es : List Binding) (constant count : ℕ) (ids : List ℕ) : Type 0 where
  pub count_of : length ids ≡ count
  pub each : (v : ℕ) → v < count → IsBoundTerm es constant v (slice_index_or ids v 0)
