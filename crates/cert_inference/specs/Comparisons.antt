-- Nodes that are compared with the terms that they are to become.
use Rattle.std.specs.Prelude.{◌≡◌, ℕ, ◌<◌, List, [], ◌∷◌, ◌++◌, length}
use denote.Bor.{Bor}
use Rattle.term_bank.specs.Forest.{Forest, tree_at}
use Rattle.unify_core.specs.Bindings.{Bound_list}
use Rattle.unify_core.specs.Sides.{Binding}
use Rattle.unify_core.specs.declared.side.Side.{Side}
use Rattle.clause_form.specs.declared.walk.Leaves.{Leaves}
use Rattle.clause_form.specs.declared.walk.Leaves.TheVariants.{Led}
use Rattle.clause_form.specs.Walks.{Reading, IsReading, on, with_vars}
use Rattle.cert_inference.specs.declared.comparison.NodePair.{NodePair}

-- the side's nodes with the terms at the same places
abbrev pub pairs_of : Side → List ℕ → List ℕ → List NodePair
pairs_of s (a ∷ nodes) (t ∷ terms) = record { node = on s a; term = t } ∷ pairs_of s nodes terms
pairs_of s (a ∷ nodes) [] = []
pairs_of s [] terms = []

-- the ids are those of the bank
abbrev pub ArePairs : Forest → List NodePair → Type 0
ArePairs f [] = Unit {0}
ArePairs f (p ∷ ps) = (p.node.term < length f.trees) × (p.term < length f.trees) × ArePairs f ps

-- the variables that stay in the nodes, from left to right
abbrev pub vars_of : Reading → List NodePair → List ℕ
vars_of r [] = []
vars_of r (p ∷ ps) = r.vars p.node ++ vars_of r ps

-- each node becomes its term
abbrev pub AreFit : Forest → Reading → List NodePair → Type 0
AreFit f r [] = Unit {0}
AreFit f r (p ∷ ps) = (r.tree p.node ≡ tree_at f p.term) × AreFit f r ps

-- the first pairs fit where the second ones do, and the variables that are met stay those of the whole
pub record IsStep (f : Forest) (w : Leaves) (ps qs : List NodePair) (os ns : List ℕ) : Type 0 where
  pub within : ArePairs f ps → ArePairs f qs
  pub met : (r : Reading) (final : List ℕ) → IsReading f w r final → with_vars os (vars_of r ps) ≡ final → with_vars ns (vars_of r qs) ≡ final
  pub fit : (r : Reading) (final : List ℕ) → IsReading f w r final → with_vars os (vars_of r ps) ≡ final → AreFit f r qs → AreFit f r ps

-- under the bindings
abbrev pub IsStepUnder : Forest → List Binding → List NodePair → List NodePair → List ℕ → List ℕ → Type 0
IsStepUnder f es ps qs os ns = (bs : Bor Bound_list) → bs.now.entries ≡ es → IsStep f (Led bs) ps qs os ns
