use Rattle.std.proofs.Common.{arith, rules}
use Rattle.instgen_select.proofs.Trues.{true_here, one_more_false, true_within}
use Rattle.instgen_select.proofs.choice.first_true.Goals as goal

pub returns-then-is_true-clause-some : goal.returns-then-is_true-clause-some
returns-then-is_true-clause-some c =
    (true_here c.args.clause.now c.args.v.now c.loop-i.i c.at.result c.at.ensures (c.is_true.ensures.yes (search rules)), λ p l. c.loop-i.invariant p (omega arith))

pub loop-i-preserved : goal.loop-i-preserved
loop-i-preserved c = one_more_false c.args.clause.now c.args.v.now c.loop-i.i c.at.result c.at.ensures c.loop-i.invariant (c.is_true.ensures.no (search rules))

pub returns-clause-none : goal.returns-clause-none
returns-clause-none c h p t = c.loop-i.invariant p (omega (arith, true_within c.args.clause.now c.args.v.now p t)) t
