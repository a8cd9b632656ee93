-- A walk that goes on.
use Rattle.std.specs.Prelude.{◌↔◌, ◌<◌, ◌+◌, ◌-◌, ◌*◌, ◌^◌, ℕ, List, [], ◌∷◌, length, map}
use Rattle.term_index.specs.declared.view.View.{View}
use Rattle.term_index.specs.Pairs.{Posting}
use Rattle.term_index.specs.declared.node.Edge.{Edge}
use Rattle.term_index.specs.declared.walk.Cell.{Cell}
use Rattle.term_index.specs.declared.walk.Frame.{Frame}
use Rattle.term_index.specs.Nodes.{Content}
use Rattle.term_index.specs.Paths.{content_at}
use Rattle.term_index.specs.Run.{Graph}
use Rattle.term_index.specs.Spots.{Comes, IsWalk}
use Rattle.term_index.specs.Frames.{spot, AreCells, AreFrames, AreMarked, fan_of}

-- how many pairs the nodes have
abbrev pub pairs_count : List Content → ℕ
pairs_count [] = 0
pairs_count (c ∷ ns) = length c.pairs + pairs_count ns

-- more than the steps that the frames still take
abbrev pub weight_of : ℕ → ℕ → List Frame → ℕ
weight_of base top [] = 0
weight_of base top (f ∷ fs) = base ^ (top - f.node) + weight_of base top fs

-- no more pairs come than so many
abbrev pub most_of : List Content → List Frame → ℕ → ℕ → ℕ
most_of ns stack leaf place = (pairs_count ns + 1) * weight_of (fan_of ns) (length ns) stack + (length (content_at ns leaf).pairs - place)

module _ (v : View) (g : Graph) (es : List Edge) (ns : List Content) where
  pub record IsWalking (cs : List Cell) (stack : List Frame) (leaf : ℕ) : Type 0 where
    pub cells : AreCells g cs
    pub frames : AreFrames g (length ns) (length cs) stack
    pub walk : IsWalk v g es (map (spot g cs) stack) leaf
    pub marked : AreMarked stack

  abbrev pub WalkComes : List Cell → List Frame → ℕ → ℕ → Posting → Type 0
  WalkComes cells stack leaf place p = Comes v g es ns (map (spot g cells) stack) leaf place p

  -- the walk goes on to another state, from which the same pairs come
  pub record GoesOn (cells : List Cell) (stack : List Frame) (leaf place : ℕ) (ds : List Cell) (rest : List Frame) (end after : ℕ) : Type 0 where
    pub walking : IsWalking ds rest end
    pub comes : (p : Posting) → WalkComes ds rest end after p ↔ WalkComes cells stack leaf place p
    pub most : most_of ns rest end after < most_of ns stack leaf place
