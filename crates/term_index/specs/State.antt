-- What contracts see of the tree.
use Rattle.std.specs.Prelude.{◌≡◌, ◌<◌, ℕ, List, [], ◌∷◌, ◌++◌, length, Bool, false}
use Rattle.term_bank.specs.Forest.{Forest, tree_at}
use Rattle.term_index.specs.declared.view.View.{View}
use Rattle.term_index.specs.Pairs.{Posting}
use Rattle.term_index.specs.declared.node.Edge.{Edge}
use Rattle.term_index.specs.declared.walk.Cell.{Cell}
use Rattle.term_index.specs.declared.walk.Frame.{Frame}
use Rattle.term_index.specs.Nodes.{Content}
use Rattle.term_index.specs.Labels.{labels}
use Rattle.term_index.specs.Numbered.{IsNumbered}
use Rattle.term_index.specs.Paths.{PlaceLists, Leads, Holds}
use Rattle.term_index.specs.Run.{Graph}
use Rattle.term_index.specs.Frames.{AreQuery}
use Rattle.term_index.specs.Walking.{IsWalking}

pub record State : Type 0 where
  pub edges : List Edge
  pub places : PlaceLists
  pub nodes : List Content
  pub found : List (Posting × ℕ)
  pub spent : Bool

-- the pairs, node by node
abbrev pub pairs_of : List Content → List Posting
pairs_of [] = []
pairs_of (c ∷ ns) = c.pairs ++ pairs_of ns

-- each pair is at the node to which its atom leads
abbrev pub IsStored : Forest → List Edge → List Content → Type 0
IsStored f es ns = (n : ℕ) (p : Posting) → Holds ns n p → (p.0 < length f.trees) × Leads es 0 (labels f (tree_at f p.0)) n × IsNumbered f (tree_at f p.0)

abbrev pub Fits : Forest → State → Type 0
Fits f s = s.spent ≡ false → IsStored f s.edges s.nodes

-- the cursor is of a walk over the tree
abbrev pub IsWalkOf : State → Bool → View → Graph → List Cell → List Frame → ℕ → Type 0
IsWalkOf s broken v g cells stack leaf = broken ≡ false → (s.spent ≡ false) × AreQuery g × IsWalking v g s.edges s.nodes cells stack leaf
