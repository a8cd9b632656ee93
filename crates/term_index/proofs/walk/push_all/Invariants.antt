use Rattle.std.proofs.Common.{◌≡◌, ◌++◌, map, take}
use Rattle.term_index.specs.Frames.{exit_frame}
use Rattle.term_index.proofs.walk.push_all.Given as goal

abbrev pub invariant-loop-end : goal.invariant-loop-end
invariant-loop-end l = l.stack.items ≡ l.initial.stack.items ++ map (exit_frame l.frame) (take l.end-index l.exits)
