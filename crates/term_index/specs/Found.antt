-- The places of the pairs at their nodes.
use Rattle.std.specs.Prelude.{◌≡◌, ◌<◌, ◌≤◌, ◌^◌, ◌&&◌, nat_eq, cond, ℕ, List, length, slice_index_or, Option, Some}
use Rattle.std.specs.Map.{lookup}
use Rattle.term_index.specs.Pairs.{Posting}
use Rattle.term_index.specs.Nodes.{Content}
use Rattle.term_index.specs.Paths.{content_at, Holds}

-- the place that the map has for the pair
abbrev pub place_of : List (Posting × ℕ) → Posting → Option ℕ
place_of found p = lookup (λ q. nat_eq p.0 q.0 && nat_eq p.1 q.1) found

-- a map after a change at a key
abbrev pub Changes : List (Posting × ℕ) → List (Posting × ℕ) → Posting → Option ℕ → Type 0
Changes found more p w = (q : Posting) → place_of more q ≡ cond (nat_eq p.0 q.0 && nat_eq p.1 q.1) w (place_of found q)

-- so many places of a node are searched one by one
abbrev pub few : ℕ
few = 8

-- each pair at a later place is found, and each entry has room in four bytes
pub record AreFound (found : List (Posting × ℕ)) (ns : List Content) : Type 0 where
  pub small : (n : ℕ) (p : Posting) → Holds ns n p → p.1 < 2 ^ 32
  pub placed : (n i : ℕ) (p : Posting) → few ≤ i → i < length (content_at ns n).pairs → slice_index_or (content_at ns n).pairs i p ≡ p → place_of found p ≡ Some i
