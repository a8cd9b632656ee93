-- An atom on its way down the tree: what is left of it, as a list of ids whose last one comes first, and which terms have ended.
use Rattle.std.specs.Prelude.{◌≡◌, ◌<◌, ◌≤◌, ◌-◌, ◌⊎◌, ℕ, ◌+◌, List, [], ◌∷◌, ◌++◌, length, Contains, All, AllPairs}
use Rattle.inst_logic.specs.Measure.{tree_size}
use Rattle.term_bank.specs.Forest.{Forest, tree_at}
use Rattle.term_index.specs.declared.label.Label.{Label}
use Rattle.term_index.specs.declared.node.Edge.{Edge}
use Rattle.term_index.specs.declared.node.Span.{Span}
use Rattle.term_index.specs.declared.descent.Open.{Open}
use Rattle.term_index.specs.Labels.{labels}
use Rattle.term_index.specs.Numbered.{IsNumbered}
use Rattle.term_index.specs.Nodes.{Content}
use Rattle.term_index.specs.Paths.{edge_at, content_at, Leads, Passes, Crosses, AreShort}

abbrev pub left_labels : Forest → List ℕ → List Label
left_labels f [] = []
left_labels f (x ∷ xs) = left_labels f xs ++ labels f (tree_at f x)

abbrev pub left_size : Forest → List ℕ → ℕ
left_size f [] = 0
left_size f (x ∷ xs) = left_size f xs + tree_size (tree_at f x)

abbrev pub AreLeftNumbered : Forest → List ℕ → Type 0
AreLeftNumbered f [] = Unit {0}
AreLeftNumbered f (x ∷ xs) = AreLeftNumbered f xs × IsNumbered f (tree_at f x)

-- the term that began at the node, which is not the root, ends where so many are left
abbrev pub IsOpen : List Edge → ℕ → ℕ → Open → Type 0
IsOpen es node left o = (0 < o.begin) × (o.height ≤ left) × ((ls : List Label) × Leads es o.begin ls node × Passes 1 ls (left - o.height))

abbrev pub IsSorted : List Open → Type 0
IsSorted xs = AllPairs (λ a b. a.height ≤ b.height) xs

-- an exit from the node has ended, or a term that began there will
abbrev pub Begins : List Open → List Span → ℕ → Type 0
Begins opened closed b = ((e : ℕ) × Contains closed (record { begin = b; end = e })) ⊎ ((h : ℕ) × Contains opened (record { begin = b; height = h }))

-- the first labels lead to the node, and the others are left; from each node on the way leads an exit
pub record IsDescent (f : Forest) (es : List Edge) (all : List Label) (node : ℕ) (left : List ℕ) (opened : List Open) (closed : List Span) : Type 0 where
  pub path : List Label
  pub leads : Leads es 0 path node
  pub split : path ++ left_labels f left ≡ all
  pub ids : All (λ id. id < length f.trees) left
  pub opens : (o : Open) → Contains opened o → IsOpen es node (length left) o
  pub sorted : IsSorted opened
  pub closes : (s : Span) → Contains closed s → Crosses es s.begin s.end × ((ms : List Label) × Leads es s.end ms node)
  pub total : (ds : List Label) (l : Label) (ms : List Label) → path ≡ ds ++ l ∷ ms → (b : ℕ) × Leads es 0 ds b × Begins opened closed b

-- those that end here are closed
abbrev pub AreBelow : ℕ → List Open → Type 0
AreBelow height opened = All (λ o. o.height < height) opened

-- an exit from the root has ended with its edge, or a term begins at the node
abbrev pub Enters : List Open → List Open → List Span → List Span → ℕ → ℕ → ℕ → Type 0
Enters before after old new node next height =
    ((node ≡ 0) × (after ≡ before) × (new ≡ old ++ record { begin = 0; end = next } ∷ [])) ⊎ ((0 < node) × (after ≡ before ++ record { begin = node; height = height } ∷ []) × (new ≡ old))

-- the last ones, down to this height, are closed at the node
pub record Closes (before after : List Open) (old new : List Span) (node height : ℕ) : Type 0 where
  pub front : (xs : List Open) × (before ≡ after ++ xs)
  pub kept : (s : Span) → Contains old s → Contains new s
  pub sound : (s : Span) → Contains new s → Contains old s ⊎ ((o : Open) × Contains before o × (height ≤ o.height) × (s ≡ record { begin = o.begin; end = node }))
  pub all : (o : Open) → Contains before o → Contains after o ⊎ Contains new (record { begin = o.begin; end = node })

-- no two edges are the same
abbrev pub IsIndexed : List Edge → Type 0
IsIndexed es = (i j : ℕ) → i < length es → j < length es → edge_at es i ≡ edge_at es j → i ≡ j

-- new edges, each to a new node that holds nothing
pub record IsGrown (es : List Edge) (ns : List Content) (fs : List Edge) (ms : List Content) : Type 0 where
  pub more : (added : List Edge) × (fs ≡ es ++ added)
  pub count : length ms ≡ length fs + 1
  pub same : (n : ℕ) → content_at ms n ≡ content_at ns n
  pub order : ((k : ℕ) → k < length es → (edge_at es k).from ≤ k) → (k : ℕ) → k < length fs → (edge_at fs k).from ≤ k
  pub once : IsIndexed es → IsIndexed fs
  pub short : AreShort es → AreShort fs

-- the atom leads to the node, and these are the exits on its way
pub record IsWay (f : Forest) (es : List Edge) (atom leaf : ℕ) (spans : List Span) : Type 0 where
  pub leads : Leads es 0 (labels f (tree_at f atom)) leaf
  pub sound : (s : Span) → Contains spans s → Crosses es s.begin s.end × ((ms : List Label) × Leads es s.end ms leaf)
  pub total : (ds : List Label) (l : Label) (ms : List Label) → labels f (tree_at f atom) ≡ ds ++ l ∷ ms → (b : ℕ) × Leads es 0 ds b × ((e : ℕ) × Contains spans (record { begin = b; end = e }))
