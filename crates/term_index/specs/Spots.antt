-- The places at which a walk still has to go on, and the pairs that it still gives.
use Rattle.std.specs.Prelude.{◌≡◌, ◌<◌, ◌≤◌, ◌⊎◌, ℕ, List, length, slice_index_or, Contains, AllPairs, Some}
use Rattle.term_index.specs.declared.view.View.{View}
use Rattle.term_index.specs.Pairs.{Posting}
use Rattle.term_index.specs.declared.label.Label.{Label}
use Rattle.term_index.specs.declared.node.Edge.{Edge}
use Rattle.term_index.specs.Nodes.{Content}
use Rattle.term_index.specs.Paths.{Leads, content_at, Holds}
use Rattle.term_index.specs.Run.{Graph, Todo, run, nothing_left}

-- a node of the tree, and what is to be met from there
pub record Spot : Type 0 where
  pub node : ℕ
  pub todo : Todo

module _ (v : View) (g : Graph) (es : List Edge) where
  -- the walk goes from the spot to the node
  abbrev pub Covers : Spot → ℕ → Type 0
  Covers s m = (ls : List Label) × Leads es s.node ls m × (run v g ls (Some s.todo) ≡ Some nothing_left)

  abbrev pub AreApart : Spot → Spot → Type 0
  AreApart s t = (m : ℕ) → Covers s m → Covers t m → ⊥

  -- the spots after one term: they cover what the spot covers, at least where pairs end
  pub record AreNext (ns : List Content) (s : Spot) (ts : List Spot) : Type 0 where
    pub above : (t : Spot) → Contains ts t → s.node < t.node
    pub sound : (t : Spot) → Contains ts t → (m : ℕ) → Covers t m → Covers s m
    pub whole : (m : ℕ) (p : Posting) → Covers s m → Holds ns m p → (t : Spot) × Contains ts t × Covers t m
    pub apart : AllPairs AreApart ts

  -- the pair is at the leaf from this place on, or at a node to which a spot leads
  abbrev pub Comes : List Content → List Spot → ℕ → ℕ → Posting → Type 0
  Comes ns spots leaf place p =
      ((i : ℕ) × (place ≤ i) × (i < length (content_at ns leaf).pairs) × (slice_index_or (content_at ns leaf).pairs i p ≡ p))
      ⊎ ((m : ℕ) × (s : Spot) × Contains spots s × Covers s m × Holds ns m p)

  -- no node is come to twice
  pub record IsWalk (spots : List Spot) (leaf : ℕ) : Type 0 where
    pub apart : AllPairs AreApart spots
    pub leaf_apart : (s : Spot) → Contains spots s → Covers s leaf → ⊥
