use Rattle.std.proofs.Common.{◌∙◌, sym, [], ◌∷◌, ◌++◌, arith}
use Rattle.std.proofs.lemmas.List.FromFn.{map-range_with_len_more}
use Rattle.inst_logic.specs.Tree.{var}
use Rattle.finite_model.proofs.graph.variables.Goals as goal

pub loop-v-preserved : goal.loop-v-preserved
loop-v-preserved c = c.in_ok-push.ensures.ok ∙ (λ i. c.loop-v.invariant i ++ var c.loop-v.v ∷ []) ∙ sym (map-range_with_len_more var 0 c.loop-v.v c.loop-v.v (omega arith))
