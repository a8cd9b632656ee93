use Rattle.std.proofs.Common.{◌≡◌, ◌<◌, length}
use Rattle.term_bank.specs.Forest.{tree_at}
use Rattle.term_index.specs.Labels.{labels}
use Rattle.term_index.specs.Numbered.{IsNumbered}
use Rattle.term_index.specs.Paths.{KeepsPairs}
use Rattle.term_index.specs.Left.{left_size, AreLeftNumbered, IsDescent, AreBelow, IsGrown}
use Rattle.term_index.proofs.paths.grown_leaf.Given as goal

abbrev pub invariant-loop-id : goal.invariant-loop-id
invariant-loop-id l = record {
  grown : IsGrown l.fn.trie.edges.keys l.fn.trie.nodes.items l.trie.edges.keys l.trie.nodes.items;
  descent : IsDescent l.bank l.trie.edges.keys (labels l.bank (tree_at l.bank l.fn.atom)) l.node l.descent.left.items l.descent.opened.items l.descent.closed.items;
  below : AreBelow (length l.descent.left.items) l.descent.opened.items;
  within : l.node < length l.trie.nodes.items;
  numbered : AreLeftNumbered l.bank l.descent.left.items → IsNumbered l.bank (tree_at l.bank l.fn.atom);
  pairs : KeepsPairs l.fn.trie.nodes.items l.trie.nodes.items;
  places : l.trie.places ≡ l.fn.trie.places;
}

abbrev pub decreases-loop-id : goal.decreases-loop-id
decreases-loop-id l = left_size l.bank l.descent.left.items
