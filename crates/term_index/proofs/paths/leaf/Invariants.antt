use Rattle.std.proofs.Common.{length}
use Rattle.term_bank.specs.Forest.{tree_at}
use Rattle.term_index.specs.Labels.{labels}
use Rattle.term_index.specs.Left.{left_size, IsDescent, AreBelow}
use Rattle.term_index.proofs.paths.leaf.Given as goal

abbrev pub invariant-loop-id : goal.invariant-loop-id
invariant-loop-id l = record {
  descent : IsDescent l.bank l.edges.keys (labels l.bank (tree_at l.bank l.fn.atom)) l.node l.descent.left.items l.descent.opened.items l.descent.closed.items;
  below : AreBelow (length l.descent.left.items) l.descent.opened.items;
}

abbrev pub decreases-loop-id : goal.decreases-loop-id
decreases-loop-id l = left_size l.bank l.descent.left.items
