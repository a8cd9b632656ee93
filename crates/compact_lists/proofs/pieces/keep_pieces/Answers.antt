use Rattle.std.proofs.Common.{◌≤◌, length, sym, ap, ◌∙◌, arith}
use Rattle.std.proofs.lemmas.List.{take_all}
use Rattle.compact_lists.specs.Pieces.{start_at, cuts}
use Rattle.compact_lists.proofs.PieceLaws.{length_cuts, ends_after_cut, cuts_after_cut}
use Rattle.compact_lists.proofs.pieces.keep_pieces.Goals as goal

pub returns-then-len-count-clause-kept : goal.returns-then-len-count-clause-kept
returns-then-len-count-clause-kept g c = sym (take_all c.args.count (cuts c.args.items.now.items 0 c.args.ends.now.items) (omega (arith, length_cuts c.args.items.now.items 0 c.args.ends.now.items, c.if-len-count.true, c.len.ensures, c.args.ends.now.ok.0)))

pub returns-clause-ends : goal.returns-clause-ends
returns-clause-ends g c =
    let ends = c.args.ends.now.items in
    let at = c.start_of-end.ensures ∙ ap (λ es. start_at 0 es c.args.count) c.as_slice.ensures.value in
    let low : c.args.count ≤ length ends = omega (arith, c.if-len-count.false, c.len.ensures, c.args.ends.now.ok.0) in
    ends_after_cut c.args.items.now.items c.truncate.new.self.items ends c.truncate-2.new.self.items c.start_of-end.result c.args.count low at c.truncate.ensures.items c.truncate-2.ensures.items c.requires

pub returns-clause-kept : goal.returns-clause-kept
returns-clause-kept g c =
    let ends = c.args.ends.now.items in
    let at = c.start_of-end.ensures ∙ ap (λ es. start_at 0 es c.args.count) c.as_slice.ensures.value in
    let low : c.args.count ≤ length ends = omega (arith, c.if-len-count.false, c.len.ensures, c.args.ends.now.ok.0) in
    cuts_after_cut c.args.items.now.items c.truncate.new.self.items ends c.truncate-2.new.self.items c.start_of-end.result c.args.count low at c.truncate.ensures.items c.truncate-2.ensures.items c.requires
