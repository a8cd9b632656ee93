use Rattle.std.proofs.Common.{◌+◌, ◌∙◌, sym, [], ◌∷◌, ◌++◌, arith}
use Rattle.inst_calculus.proofs.MadeLists.{range_more}
use Rattle.core_min.proofs.deletion.all_places.Goals as goal

pub loop-i-preserved : goal.loop-i-preserved
loop-i-preserved c = c.in_ok-push.ensures.items ∙ (λ j. c.loop-i.invariant j ++ (c.loop-i.i + 1) ∷ []) ∙ sym (range_more 1 c.loop-i.i (c.loop-i.i + 1) (omega arith))
