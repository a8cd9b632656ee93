use Rattle.std.proofs.Common.{rules}
use Rattle.instgen_run.proofs.Asked.{one_more}
use Rattle.instgen_run.proofs.ask.are_true_after.Goals as goal

pub loop-k-preserved : goal.loop-k-preserved
loop-k-preserved c = one_more c.args.literals.now c.args.v.now c.args.count c.loop-k.k c.clause_after.result.now c.clause_after.ensures (c.is_true.ensures (search rules)) c.loop-k.invariant
