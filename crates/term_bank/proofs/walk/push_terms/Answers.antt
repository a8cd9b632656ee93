use Rattle.std.proofs.Common.{arith, subst, List, sym, drop, ◌-◌}
use Rattle.term_bank.specs.declared.walk.Step.{Step}
use Rattle.term_bank.proofs.Walks.{IsPushed, one_more}
use Rattle.term_bank.proofs.walk.push_terms.Goals as goal

pub loop-i-preserved : goal.loop-i-preserved
loop-i-preserved c =
    let before : IsPushed c.args.steps.now.items c.loop-i.steps.items (drop c.loop-i.i c.args.terms.now) = record { done = c.loop-i.invariant.done; size = c.loop-i.invariant.size } in
    let after = one_more _ _ c.args.terms.now c.loop-i.i _ (omega arith) (omega arith) c.index-terms-i.is before in
    let k = subst (λ (ss : List Step). IsPushed c.args.steps.now.items ss (drop (c.loop-i.i - 1) c.args.terms.now)) (sym c.in_ok-push.ensures.items) after in
    record { done = k.done; size = k.size }
