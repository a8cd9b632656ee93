use Rattle.std.proofs.Common.{◌≡◌, length}
use Rattle.term_index.specs.Paths.{MakeTrie, KeepsPairs}
use Rattle.term_index.proofs.links.prune.Given as goal

abbrev pub invariant-loop-i : goal.invariant-loop-i
invariant-loop-i l = record {
  trie : MakeTrie l.edges.keys l.places l.nodes.items;
  len : length l.nodes.items ≡ length l.fn.nodes.items;
  pairs : KeepsPairs l.fn.nodes.items l.nodes.items;
}
