-- Copies of queries.
use Rattle.std.specs.Prelude.{◌≡◌, ◌<◌, ◌≤◌, ◌+◌, ◌⊎◌, ℕ, List, [], ◌++◌, length, slice_index_or, map, All}
use Rattle.inst_logic.specs.Tree.{Tree}
use Rattle.term_bank.specs.Forest.{Forest, tree_at, arguments_of}
use Rattle.term_index.specs.Labels.{label_of, arity_of}
use Rattle.term_index.specs.Numbered.{IsGraphOf, IsKnown}
use Rattle.term_index.specs.declared.walk.Frame.{Frame}
use Rattle.term_index.specs.Frames.{AreQuery}
use Rattle.term_index.specs.Run.{Graph, node_at, args_at}

abbrev pub id_of : List ℕ → ℕ → ℕ
id_of ids n = slice_index_or ids n 0

-- the old ids stay, and the id has this number
abbrev pub CopiesOne : List ℕ → List ℕ → ℕ → ℕ → Type 0
CopiesOne ids more id n = (added : List ℕ) × (more ≡ ids ++ added) × (n < length more) × (id_of more n ≡ id) × ((P : ℕ) → All (λ i. i < P) ids → id < P → All (λ i. i < P) more)

-- the old ids stay, and numbers of these ids are added
abbrev pub CopiesArgs : List ℕ → List ℕ → List ℕ → List ℕ → List ℕ → Type 0
CopiesArgs ids more old new args =
    (added : List ℕ) × (numbers : List ℕ) × (more ≡ ids ++ added) × (new ≡ old ++ numbers) × (map (id_of more) numbers ≡ args) × All (λ n. n < length more) numbers × ((P : ℕ) → All (λ i. i < P) ids → All (λ i. i < P) args → All (λ i. i < P) more)

-- the graph is that of the query, whose root is its first node
pub record IsCopyOf (f : Forest) (id : ℕ) (g : Graph) : Type 0 where
  pub tree : ℕ → Tree
  pub graph : IsGraphOf f tree g
  pub query : AreQuery g
  pub some : 0 < length g.nodes
  pub front : (0 < length g.args) × (slice_index_or g.args 0 0 ≡ 0)
  pub root : tree 0 ≡ tree_at f id

-- the graph is that of the query, or there are no frames to be worked with it
abbrev pub IsQueryOf : Forest → ℕ → List Frame → Graph → Type 0
IsQueryOf f id stack g = IsCopyOf f id g ⊎ ((stack ≡ []) × AreQuery g)

-- the first nodes are copied
abbrev pub CopiesSome : Forest → List ℕ → Graph → Type 0
CopiesSome f ids g = (k : ℕ) → k < length g.nodes → ((node_at g k).label ≡ label_of f (tree_at f (id_of ids k))) × ((node_at g k).first + arity_of (node_at g k).label ≤ length g.args)
    × (map (λ n. tree_at f (id_of ids n)) (args_at g k) ≡ arguments_of (tree_at f (id_of ids k))) × IsKnown f (tree_at f (id_of ids k))
