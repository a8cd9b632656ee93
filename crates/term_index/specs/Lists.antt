-- What changes in the lists of exits.
use Rattle.std.specs.Prelude.{◌≡◌, ℕ, ◌<◌, List, length, Contains, Some, ◌⊎◌, All}
use Rattle.term_index.specs.declared.node.Edge.{Edge}
use Rattle.term_index.specs.declared.node.Span.{Span}
use Rattle.term_index.specs.Nodes.{Content}
use Rattle.term_index.specs.Paths.{PlaceLists, place_of, Exits, KeepsPairs}

-- the span has the place, and what is known of the others stays
pub record IsNoted (es : List Edge) (ps qs : PlaceLists) (s : Span) (k : ℕ) : Type 0 where
  pub here : place_of es qs s ≡ Some k
  pub others : (t : Span) (p : ℕ) → ¬ (t ≡ s) → place_of es ps t ≡ Some p → place_of es qs t ≡ Some p

-- what was listed still is
abbrev pub KeepsExits : List Content → List Content → Type 0
KeepsExits ns ms = (n c : ℕ) → Exits ns n c → Exits ms n c

abbrev pub AreWithin : ℕ → List Span → Type 0
AreWithin k xs = All (λ s. (s.begin < k) × (s.end < k)) xs

-- these spans are listed too
pub record ListsAll (ns : List Content) (added : List Span) (ms : List Content) : Type 0 where
  pub sound : (n c : ℕ) → Exits ms n c → Exits ns n c ⊎ Contains added (record { begin = n; end = c })
  pub all : (s : Span) → Contains added s → Exits ms s.begin s.end
  pub kept : KeepsExits ns ms

-- all but this span stay where they are listed
pub record KeepsOthers (ns : List Content) (s : Span) (ms : List Content) : Type 0 where
  pub len : length ms ≡ length ns
  pub pairs : KeepsPairs ns ms
  pub kept : (n c : ℕ) → Exits ns n c → ¬ (record { begin = n; end = c } ≡ s) → Exits ms n c
  pub fewer : (n c : ℕ) → Exits ms n c → Exits ns n c
