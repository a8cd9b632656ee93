-- What a node holds.
use Rattle.std.specs.Prelude.{ℕ, List, []}
use Rattle.term_index.specs.Pairs.{Posting}
use Rattle.term_index.specs.declared.node.NodeShape.{NodeShape}
use Rattle.term_index.specs.declared.node.NodeShape.TheVariants.{Nothing, OneExit, OnePair, Exits, Pairs, Both}

pub record Content : Type 0 where
  pub exits : List ℕ
  pub pairs : List Posting

abbrev pub no_content : Content
no_content = record { exits = []; pairs = [] }

-- what a node has by its shape
abbrev pub exits_of : NodeShape → List ℕ
exits_of Nothing = []
exits_of (OneExit exit) = exit
exits_of (OnePair pair) = []
exits_of (Exits all) = all.value.items
exits_of (Pairs all) = []
exits_of (Both lists) = lists.value.exits.items

abbrev pub ends_at : NodeShape → List Posting
ends_at Nothing = []
ends_at (OneExit exit) = []
ends_at (OnePair pair) = pair
ends_at (Exits all) = []
ends_at (Pairs all) = all.value.items
ends_at (Both lists) = lists.value.pairs.items
