-- What contracts say of a trie, and of a walk over it.
use Rattle.std.specs.Prelude.{ℕ}
use Rattle.term_bank.specs.Forest.{Forest}
use Rattle.term_index.specs.declared.view.View.{View}
use Rattle.term_index.specs.declared.trie.Trie.{Trie}
use Rattle.term_index.specs.declared.walk.Walk.{Walk}
use Rattle.term_index.specs.Pairs.{Posting}
use Rattle.term_index.specs.Paths.{MakeTrie}
use Rattle.term_index.specs.Run.{Graph}
use Rattle.term_index.specs.State.{IsStored}
use Rattle.term_index.specs.Walking.{IsWalking, WalkComes, most_of}

abbrev pub IsTrie : Trie → Type 0
IsTrie t = MakeTrie t.edges.keys t.places t.nodes.items

-- each pair is at the node to which its atom leads
abbrev pub AreStored : Forest → Trie → Type 0
AreStored f t = IsStored f t.edges.keys t.nodes.items

abbrev pub IsWalkOver : View → Graph → Trie → Walk → Type 0
IsWalkOver v g t w = IsWalking v g t.edges.keys t.nodes.items w.cells.items w.stack.items w.leaf

-- the pair still comes
abbrev pub StillComes : View → Graph → Trie → Walk → Posting → Type 0
StillComes v g t w = WalkComes v g t.edges.keys t.nodes.items w.cells.items w.stack.items w.leaf w.place

-- no more pairs come than so many
abbrev pub most_left : Trie → Walk → ℕ
most_left t w = most_of t.nodes.items w.stack.items w.leaf w.place
