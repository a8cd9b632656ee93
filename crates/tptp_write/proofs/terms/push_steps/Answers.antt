use Rattle.std.proofs.Common.{◌-◌, List, drop, subst, sym, arith}
use Rattle.tptp_write.specs.declared.terms.Step.{Step}
use Rattle.tptp_write.proofs.Walks.{IsPushed, closed, one_more}
use Rattle.tptp_write.proofs.terms.push_steps.Goals as goal

pub loop-i-init : goal.loop-i-init
loop-i-init c =
    let h = closed c.args.steps.now.items c.push.new.self.items c.args.terms.now c.in_ok-push.ensures.items in
    record { text = h.text; size = h.size }

pub loop-i-preserved : goal.loop-i-preserved
loop-i-preserved c =
    let before : IsPushed c.args.steps.now.items c.loop-i.steps.items (drop c.loop-i.i c.args.terms.now) = record { text = c.loop-i.invariant.text; size = c.loop-i.invariant.size } in
    let after = one_more _ _ c.args.terms.now c.loop-i.i _ (omega arith) (omega arith) c.index-terms-i.is before in
    let k = subst (λ (ss : List Step). IsPushed c.args.steps.now.items ss (drop (c.loop-i.i - 1) c.args.terms.now)) (sym {A = List Step} c.in_ok-push-2.ensures.items) after in
    record { text = k.text; size = k.size }
