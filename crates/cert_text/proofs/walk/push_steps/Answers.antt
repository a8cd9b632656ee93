use Rattle.std.proofs.Common.{ℕ, ◌-◌, ◌<◌, length, List, drop, subst, sym, arith}
use Rattle.cert_text.specs.declared.walk.Step.{Step}
use Rattle.cert_text.proofs.Writing.{IsPushed, closed, one_more}
use Rattle.cert_text.proofs.walk.push_steps.Goals as goal

pub loop-i-init : goal.loop-i-init
loop-i-init c = closed c.args.bank.now c.args.steps.now.items c.push.new.self.items c.args.ids.now c.in_ok-push.ensures.items

pub loop-i-preserved : goal.loop-i-preserved
loop-i-preserved c =
    let within = subst (λ (i : ℕ). i < length c.args.bank.now.trees) (sym c.index-ids-i.is) (c.requires.ids (c.loop-i.i - 1) c.index-ids-i.result (omega arith)) in
    let after = one_more c.args.bank.now _ _ c.args.ids.now c.loop-i.i c.index-ids-i.result (omega arith) (omega arith) c.index-ids-i.is within c.loop-i.invariant in
    subst (λ (ss : List Step). IsPushed c.args.bank.now c.args.steps.now.items ss (drop (c.loop-i.i - 1) c.args.ids.now)) (sym c.in_ok-push-2.ensures.items) after
