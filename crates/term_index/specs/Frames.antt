-- The frames of a walk as spots.
use Rattle.std.specs.Prelude.{◌≡◌, ◌<◌, ◌≤◌, ◌-◌, ◌+◌, ℕ, zero, suc, List, [], ◌++◌, length, slice_index_or, take, drop, All, AllPairs, map, ◌∷◌, ◌⊎◌}
use Rattle.term_index.specs.declared.view.View.{View}
use Rattle.term_index.specs.Pairs.{Posting}
use Rattle.term_index.specs.declared.label.Label.{Label}
use Rattle.term_index.specs.declared.node.Edge.{Edge}
use Rattle.term_index.specs.Labels.{arity_of}
use Rattle.term_index.specs.Paths.{IsBare, IsChild, content_at}
use Rattle.term_index.specs.declared.walk.Cell.{Cell}
use Rattle.term_index.specs.declared.walk.Frame.{Frame}
use Rattle.term_index.specs.Nodes.{Content}
use Rattle.term_index.specs.Run.{Graph, node_at, args_at}
use Rattle.term_index.specs.Spots.{Spot, AreNext}

abbrev pub no_cell : Cell
no_cell = record { at = 0; end = 0; rest = 0 }

abbrev pub cell_at : List Cell → ℕ → Cell
cell_at cs k = slice_index_or cs k no_cell

-- the arguments from a place to another
abbrev pub between : List ℕ → ℕ → ℕ → List ℕ
between args at end = take (end - at) (drop at args)

-- the list of this number, found in so many steps
unfoldable pub list_in : List ℕ → List Cell → ℕ → ℕ → List ℕ
list_in args cs zero n = []
list_in args cs (suc k) zero = []
list_in args cs (suc k) (suc n) = between args (cell_at cs n).at (cell_at cs n).end ++ list_in args cs k (cell_at cs n).rest

abbrev pub list_of : List ℕ → List Cell → ℕ → List ℕ
list_of args cs n = list_in args cs n n

abbrev pub spot : Graph → List Cell → Frame → Spot
spot g cs f = record { node = f.node; todo = (0, between g.args f.at f.end ++ list_of g.args cs f.rest) }

-- each list goes on with an older one, and is not empty
abbrev pub AreCells : Graph → List Cell → Type 0
AreCells g cs = (k : ℕ) → k < length cs → ((cell_at cs k).rest ≤ k) × ((cell_at cs k).at < (cell_at cs k).end) × ((cell_at cs k).end ≤ length g.args)

abbrev pub IsFrame : Graph → ℕ → ℕ → Frame → Type 0
IsFrame g nodes lists f = (f.node < nodes) × (f.at ≤ f.end) × (f.end ≤ length g.args) × (f.rest ≤ f.cells) × (f.cells ≤ lists)

abbrev pub AreFrames : Graph → ℕ → ℕ → List Frame → Type 0
AreFrames g nodes lists fs = All (IsFrame g nodes lists) fs

-- the old lists stay
abbrev pub Grows : List Cell → List Cell → Type 0
Grows cs ds = (more : List Cell) × (ds ≡ cs ++ more)

-- the arguments of each node are arguments, and each argument is a node
pub record AreQuery (g : Graph) : Type 0 where
  pub within : (q : ℕ) → q < length g.nodes → (node_at g q).first + arity_of (node_at g q).label ≤ length g.args
  pub nodes : All (λ a. a < length g.nodes) g.args

-- what is to be met after the passed terms
abbrev pub rest_of : Graph → List Cell → Frame → List ℕ
rest_of g cs f = between g.args f.at f.end ++ list_of g.args cs f.rest

-- the frame begins with an argument, or nothing is to be met after the passed terms
abbrev pub IsSettled : Frame → Type 0
IsSettled f = (f.at < f.end) ⊎ ((f.at ≡ f.end) × (f.rest ≡ 0))

-- the node, where pairs end there
abbrev pub leaf_of : List Posting → ℕ → List ℕ
leaf_of [] n = []
leaf_of (p ∷ ps) n = n ∷ []

abbrev pub leaf_at : List Content → ℕ → List ℕ
leaf_at ns n = leaf_of (content_at ns n).pairs n

-- the first nodes at which pairs end
abbrev pub leaves_before : List Content → ℕ → List ℕ
leaves_before ns zero = []
leaves_before ns (suc n) = leaves_before ns n ++ leaf_at ns n

-- where the terms from a node end, if pairs end there or below
abbrev pub ends_of : List Content → ℕ → List ℕ
ends_of ns zero = leaves_before ns (length ns)
ends_of ns (suc n) = (content_at ns (suc n)).exits

-- the frame at an exit
abbrev pub exit_frame : Frame → ℕ → Frame
exit_frame f c = record f { node = c }

-- the label leads from the node to a child that is not bare
abbrev pub IsLive : List Edge → List Content → ℕ → Label → ℕ → Type 0
IsLive es ns n l c = IsChild es n l c × ¬ (IsBare (content_at ns c))

-- the label leads from the node to no child, or to one that is bare
abbrev pub LeadsNowhere : List Edge → List Content → ℕ → Label → Type 0
LeadsNowhere es ns n l = ((c : ℕ) → ¬ (IsChild es n l c)) ⊎ ((c : ℕ) × IsChild es n l c × IsBare (content_at ns c))

-- the frame at the child by the label, where there is one that is not bare
abbrev pub AddsOne : List Edge → List Content → Frame → Label → List Frame → List Frame → Type 0
AddsOne es ns f l old new = ((new ≡ old) × LeadsNowhere es ns f.node l) ⊎ ((c : ℕ) × IsLive es ns f.node l c × (new ≡ old ++ record f { node = c } ∷ []))

-- the frame at the child by the label, where there is one that is not bare, with the arguments of the query's node first
abbrev pub AddsInner : Graph → List Edge → List Content → List Cell → List Cell → ℕ → Label → Frame → List Frame → List Frame → Type 0
AddsInner g es ns cs ds q l f old new =
    ((new ≡ old) × LeadsNowhere es ns f.node l)
    ⊎ ((i : Frame) × IsLive es ns f.node l i.node × (new ≡ old ++ i ∷ []) × (i.at ≤ i.end) × (i.end ≤ length g.args) × (i.rest ≤ i.cells) × (i.cells ≤ length ds) × (f.cells ≤ i.cells) × (rest_of g ds i ≡ args_at g q ++ rest_of g cs f))

-- no node has so many exits, or so many frames after one step
abbrev pub fan_of : List Content → ℕ
fan_of [] = 3
fan_of (c ∷ ns) = length c.exits + fan_of ns + 1

-- the earlier of two frames was pushed when there were no more cells
abbrev pub AreMarked : List Frame → Type 0
AreMarked fs = AllPairs (λ a b. a.cells ≤ b.cells) fs

-- frames of the spots after one term, pushed when there were at least so many cells
abbrev pub AddsNext : View → Graph → List Edge → List Content → Spot → ℕ → List Cell → List Frame → List Frame → Type 0
AddsNext v g es ns s low cs old new =
    (fs : List Frame) × (new ≡ old ++ fs) × AreNext v g es ns s (map (spot g cs) fs) × AreFrames g (length ns) (length cs) fs × (length fs < fan_of ns) × All (λ f. low ≤ f.cells) fs × AreMarked fs

-- a walk at the root of the tree, if that is not bare, with the root of the query
abbrev pub IsBegun : List Content → List Cell → List Frame → ℕ → ℕ → Type 0
IsBegun ns cells stack leaf place = (cells ≡ []) × (leaf ≡ 0) × (length (content_at ns 0).pairs ≤ place)
    × ((IsBare (content_at ns 0) × (stack ≡ [])) ⊎ (¬ (IsBare (content_at ns 0)) × (stack ≡ record { node = 0; at = 0; end = 1; rest = 0; cells = 0 } ∷ [])))
