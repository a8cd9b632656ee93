use Rattle.std.proofs.Common.{sym, rules, arith, length}
use Rattle.std.proofs.lemmas.Option.{slice_get_past}
use Rattle.compact_lists.proofs.PieceLaws.{length_cuts, end_within, start_below, cut_at}
use Rattle.compact_lists.proofs.pieces.piece.Goals as goal

pub returns-then-ends-i : goal.returns-then-ends-i
returns-then-ends-i g c = sym (slice_get_past _ c.args.i (omega (arith, length_cuts c.args.items.now 0 c.args.ends.now)))

pub slice_bounds-result-count : goal.slice_bounds-result-count
slice_bounds-result-count g c =
    let low = start_below 0 c.args.ends.now (length c.args.items.now) c.args.i c.requires c.if-ends-i.false in
    let high = end_within 0 c.args.ends.now (length c.args.items.now) c.args.i c.requires c.if-ends-i.false in
    search rules

pub slice_bounds-result-start : goal.slice_bounds-result-start
slice_bounds-result-start g c =
    let low = start_below 0 c.args.ends.now (length c.args.items.now) c.args.i c.requires c.if-ends-i.false in
    let high = end_within 0 c.args.ends.now (length c.args.items.now) c.args.i c.requires c.if-ends-i.false in
    search rules

pub slice_bounds-result-end : goal.slice_bounds-result-end
slice_bounds-result-end g c =
    let low = start_below 0 c.args.ends.now (length c.args.items.now) c.args.i c.requires c.if-ends-i.false in
    let high = end_within 0 c.args.ends.now (length c.args.items.now) c.args.i c.requires c.if-ends-i.false in
    search rules

pub returns : goal.returns
returns g c = rw (c.start_of-start.ensures) (sym (cut_at c.args.items.now 0 c.args.ends.now c.args.i c.if-ends-i.false))

pub offset_bounds-items-start : goal.offset_bounds-items-start
offset_bounds-items-start g c =
    let low = start_below 0 c.args.ends.now (length c.args.items.now) c.args.i c.requires c.if-ends-i.false in
    let high = end_within 0 c.args.ends.now (length c.args.items.now) c.args.i c.requires c.if-ends-i.false in
    omega (arith, low, high, c.start_of-start.ensures)
