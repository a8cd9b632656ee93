use Rattle.std.proofs.Common.{◌∙◌, ap, sym, arith, fold}
use Rattle.inst_logic.specs.Equal.{sym_eq}
use Rattle.inst_logic.specs.Lists.{with_item}
use Rattle.equality_axioms.proofs.Collecting.{popped_symbols, popped_size}
use Rattle.equality_axioms.proofs.symbols.run.Goals as goal

pub loop-t-preserved : goal.loop-t-preserved
loop-t-preserved c =
    c.in_ok-visit.ensures.symbols
    ∙ ap (fold (with_item sym_eq) c.loop-t.seen.keys) (sym (popped_symbols c.loop-t.pending.items c.pop.new.self.items c.in-Some.t c.in-Some.ensures.items))
    ∙ c.loop-t.invariant

pub loop-t-smaller : goal.loop-t-smaller
loop-t-smaller c =
    let size = c.in_ok-visit.ensures.size in
    let all = popped_size c.loop-t.pending.items c.pop.new.self.items c.in-Some.t c.in-Some.ensures.items in
    omega (arith, size, all)
