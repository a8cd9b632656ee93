use Rattle.std.proofs.Common.{◌≡◌, length}
use Rattle.std.specs.Vec.Iter.{into_iter_items, into_iter_len}
use Rattle.instgen_loop.proofs.LineLaws.{IsLineWalk}
use Rattle.instgen_loop.proofs.lines.lines_of.Given as goal

abbrev pub invariant-loop-item : goal.invariant-loop-item
invariant-loop-item l = record {
  walk : IsLineWalk l.fn.bank l.bank l.given l.fn.items (into_iter_items l.item-iterator) l.lines.items;
  count : into_iter_len l.item-iterator ≡ length (into_iter_items l.item-iterator);
}
