use Rattle.std.proofs.Common.{◌≡◌, ◌++◌, map}
use Rattle.term_index.specs.Frames.{exit_frame, leaves_before}
use Rattle.term_index.proofs.walk.push_leaves.Given as goal

abbrev pub invariant-loop-node : goal.invariant-loop-node
invariant-loop-node l = l.stack.items ≡ l.initial.stack.items ++ map (exit_frame l.frame) (leaves_before l.nodes.items l.node)
