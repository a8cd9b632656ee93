use Rattle.std.proofs.Common.{arith, List, subst, sym, drop, map, ◌-◌}
use denote.Bor.{Bor}
use Rattle.inst_logic.specs.declared.term.Term.{Term}
use Rattle.inst_logic.specs.View.{tree}
use Rattle.equality_axioms.proofs.Collecting.{IsPushed, one_more, views}
use Rattle.equality_axioms.proofs.symbols.push_terms.Goals as goal

pub loop-i-preserved : goal.loop-i-preserved
loop-i-preserved c =
    let old = views c.args.pending.now.items in
    let before : IsPushed old (views c.loop-i.pending.items) (map tree (drop c.loop-i.i c.args.terms.now)) = record { symbols = c.loop-i.invariant.symbols; size = c.loop-i.invariant.size } in
    let after = one_more old c.loop-i.pending.items c.args.terms.now c.loop-i.i _ (omega arith) (omega arith) c.index-terms-i.is before in
    let k = subst (λ (ts : List (Bor Term)). IsPushed old (views ts) (map tree (drop (c.loop-i.i - 1) c.args.terms.now))) (sym c.in_ok-push.ensures.items) after in
    record { symbols = k.symbols; size = k.size }
