-- The ways through the tree.
use Rattle.std.specs.Prelude.{◌≡◌, ◌^◌, ℕ, zero, suc, ◌+◌, ◌-◌, ◌<◌, ◌≤◌, nat_eq, nat_lt, Bool, ◌&&◌, if◌then◌else◌, Option, Some, List, [], ◌∷◌, length, slice_get, slice_index_or, Contains, AllPairs, ◌≢◌}
use Rattle.std.specs.Map.{lookup}
use Rattle.term_index.specs.Pairs.{Posting}
use Rattle.term_index.specs.declared.label.Label.{Label}
use Rattle.term_index.specs.declared.label.Label.TheVariants.{Variable, Symbol}
use Rattle.term_index.specs.declared.node.Edge.{Edge}
use Rattle.term_index.specs.declared.node.Span.{Span}
use Rattle.term_index.specs.Labels.{arity_of}
use Rattle.term_index.specs.Nodes.{Content, no_content}

abbrev pub no_edge : Edge
no_edge = record { from = 0; label = Variable }

abbrev pub edge_at : List Edge → ℕ → Edge
edge_at es k = slice_index_or es k no_edge

-- the numbers in the label have room in four bytes
abbrev pub IsShort : Label → Type 0
IsShort Variable = Unit {0}
IsShort (Symbol s n) = (s < 2 ^ 32) × (n < 2 ^ 32)

abbrev pub AreShort : List Edge → Type 0
AreShort es = (k : ℕ) → k < length es → IsShort (edge_at es k).label

-- the label leads from the node to the child
pub record IsChild (es : List Edge) (n : ℕ) (l : Label) (c : ℕ) : Type 0 where
  pub edge : ℕ
  pub number : c ≡ edge + 1
  pub within : edge < length es
  pub is : edge_at es edge ≡ record { from = n; label = l }

-- the labels lead from the node to the last one
abbrev pub Leads : List Edge → ℕ → List Label → ℕ → Type 0
Leads es n [] m = n ≡ m
Leads es n (l ∷ ls) m = (c : ℕ) × IsChild es n l c × Leads es c ls m

-- of so many terms, so many are still to come after the labels
abbrev pub Passes : ℕ → List Label → ℕ → Type 0
Passes k [] m = k ≡ m
Passes zero (l ∷ ls) m = ⊥
Passes (suc k) (l ∷ ls) m = Passes (k + arity_of l) ls m

-- the labels from the node to the other are those of one term
abbrev pub Spans : List Edge → ℕ → ℕ → Type 0
Spans es n c = (ls : List Label) × Leads es n ls c × Passes 1 ls 0

-- from the root an exit leads over one edge, and from any other node over one term
abbrev pub Crosses : List Edge → ℕ → ℕ → Type 0
Crosses es zero c = (l : Label) × IsChild es 0 l c
Crosses es (suc n) c = Spans es (suc n) c

abbrev pub content_at : List Content → ℕ → Content
content_at ns n = slice_index_or ns n no_content

-- the pair ends at the node
abbrev pub Holds : List Content → ℕ → Posting → Type 0
Holds ns n p = Contains (content_at ns n).pairs p

-- some pair ends at the node or below it
abbrev pub Reaches : List Edge → List Content → ℕ → Type 0
Reaches es ns c = (ls : List Label) × (m : ℕ) × (p : Posting) × Leads es c ls m × Holds ns m p

-- nothing ends at the node, and no exits from it are listed
abbrev pub IsBare : Content → Type 0
IsBare c = (c.pairs ≡ []) × (c.exits ≡ [])

abbrev pub exit_at : List Content → ℕ → ℕ → ℕ
exit_at ns n i = slice_index_or (content_at ns n).exits i 0

-- where the exits stand at the nodes where they begin: those to which one edge leads by their ends, and the others
pub record PlaceLists : Type 0 where
  pub ends : List ℕ
  pub spans : List (Span × ℕ)

-- one edge leads from the begin of the span to its end
abbrev pub is_step : List Edge → Span → Bool
is_step es s = nat_lt (s.end - 1) (length es) && nat_eq (edge_at es (s.end - 1)).from s.begin

-- the place that is known of a span
abbrev pub place_of : List Edge → PlaceLists → Span → Option ℕ
place_of es ps s = if is_step es s then slice_get ps.ends s.end else lookup (λ t. nat_eq s.begin t.begin && nat_eq s.end t.end) ps.spans

-- the span from the node to the other is listed there
abbrev pub Exits : List Content → ℕ → ℕ → Type 0
Exits ns n c = Contains (content_at ns n).exits c

-- the place of each span that is listed is known
abbrev pub AreListed : List Edge → PlaceLists → List Content → Type 0
AreListed es ps ns = (n i : ℕ) → i < length (content_at ns n).exits → place_of es ps (record { begin = n; end = exit_at ns n i }) ≡ Some i

-- the edges, the places and what the nodes hold make a tree; of the exits at least those to nodes at or below which pairs end
-- are listed where they begin
pub record MakeTrie (es : List Edge) (ps : PlaceLists) (ns : List Content) : Type 0 where
  pub count : 0 < length ns → length ns ≡ length es + 1
  pub none : length ns ≡ 0 → length es ≡ 0
  pub order : (k : ℕ) → k < length es → (edge_at es k).from ≤ k
  pub once : (i j : ℕ) → i < length es → j < length es → edge_at es i ≡ edge_at es j → i ≡ j
  pub short : AreShort es
  pub listed : AreListed es ps ns
  pub exits : (n c : ℕ) → Exits ns n c → Crosses es n c
  pub linked : (n c : ℕ) → Crosses es n c → Reaches es ns c → Exits ns n c
  pub whole : (n : ℕ) (p : Posting) → Holds ns n p → Spans es 0 n
  pub pairs_once : (n : ℕ) → AllPairs ◌≢◌ (content_at ns n).pairs
  pub one_place : (m n : ℕ) (p : Posting) → Holds ns m p → Holds ns n p → m ≡ n

-- each edge keeps its place
abbrev pub KeepsEdges : List Edge → List Edge → Type 0
KeepsEdges es fs = (n : ℕ) (l : Label) (c : ℕ) → IsChild es n l c → IsChild fs n l c

-- each node holds the same pairs
abbrev pub KeepsPairs : List Content → List Content → Type 0
KeepsPairs ns ms = (n : ℕ) → (content_at ms n).pairs ≡ (content_at ns n).pairs

-- each exit to a node on the ways to this one is listed where it begins
abbrev pub IsLinked : List Edge → List Content → ℕ → Type 0
IsLinked es ns leaf = (n c : ℕ) (ms : List Label) → Crosses es n c → Leads es c ms leaf → Exits ns n c
