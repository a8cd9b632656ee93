use Rattle.std.proofs.Common.{◌∙◌, sym, ap, map, arith}
use Rattle.term_bank.specs.Forest.{tree_at}
use Rattle.term_bank.specs.Steps.{all_done}
use Rattle.term_bank.proofs.Growth.{extends_trans}
use Rattle.term_bank.proofs.Walks.{first_step, first_size, first_formed}
use Rattle.term_bank.proofs.walk.run_steps.Goals as goal

pub loop-step-preserved-in-Continue-1 : goal.loop-step-preserved-in-Continue-1
loop-step-preserved-in-Continue-1 c =
    let ts = map (tree_at c.loop-step.bank) c.loop-step.ids.items in
    record {
      done = c.in_ok-visit-in-Visit.ensures.done ∙ sym (first_step c.loop-step.steps.items c.pop.new.self.items c.in-Some.step _ ts c.in-Some.ensures.items c.in-Visit.is) ∙ c.loop-step.invariant.done;
      within = c.in_ok-visit-in-Visit.ensures.within;
      extends = extends_trans c.args.bank.now c.loop-step.bank c.visit.new.bank c.loop-step.invariant.extends c.visit.ensures.grows.0;
      formed = λ old out. c.visit.ensures.grows.1 (c.loop-step.invariant.formed old out);
      unspent = c.in_ok-visit-in-Visit.ensures.unspent c.loop-step.invariant.unspent;
    }

pub loop-step-smaller-in-Continue-1 : goal.loop-step-smaller-in-Continue-1
loop-step-smaller-in-Continue-1 c =
    let size = c.in_ok-visit-in-Visit.ensures.size in
    let all = first_size c.loop-step.steps.items c.pop.new.self.items c.in-Some.step _ c.in-Some.ensures.items c.in-Visit.is in
    omega (arith, size, all)

pub loop-step-preserved : goal.loop-step-preserved
loop-step-preserved c =
    let ts = map (tree_at c.loop-step.bank) c.loop-step.ids.items in
    record {
      done = ap (all_done c.pop.new.self.items) c.in_ok-apply-in-Apply.ensures.done
          ∙ sym (first_step c.loop-step.steps.items c.pop.new.self.items c.in-Some.step _ ts c.in-Some.ensures.items c.in-Apply.is) ∙ c.loop-step.invariant.done;
      within = c.in_ok-apply-in-Apply.ensures.within;
      extends = extends_trans c.args.bank.now c.loop-step.bank c.apply.new.bank c.loop-step.invariant.extends c.apply.ensures.extends;
      formed = λ old out. c.apply.ensures.formed (c.loop-step.invariant.formed old out)
          (first_formed c.loop-step.steps.items c.pop.new.self.items c.in-Some.step _ ts _ c.in-Some.ensures.items c.in-Apply.is c.loop-step.invariant.done out);
      unspent = c.in_ok-apply-in-Apply.ensures.unspent;
    }

pub loop-step-smaller : goal.loop-step-smaller
loop-step-smaller c =
    let all = first_size c.loop-step.steps.items c.pop.new.self.items c.in-Some.step _ c.in-Some.ensures.items c.in-Apply.is in
    omega (arith, all)

pub returns-in_err-apply-in-Apply-clause-formed : goal.returns-in_err-apply-in-Apply-clause-formed
returns-in_err-apply-in-Apply-clause-formed c old out =
    let ts = map (tree_at c.loop-step.bank) c.loop-step.ids.items in
    c.apply.ensures.formed (c.loop-step.invariant.formed old out)
    (first_formed c.loop-step.steps.items c.pop.new.self.items c.in-Some.step _ ts _ c.in-Some.ensures.items c.in-Apply.is c.loop-step.invariant.done out)
