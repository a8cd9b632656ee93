use Rattle.std.proofs.Common.{◌+◌, ◌∙◌, sym, [], ◌∷◌, ◌++◌, true, arith}
use Rattle.std.proofs.lemmas.List.FromFn.{map-range_with_len_more}
use Rattle.finite_model.specs.Flattening.{value_literal}
use Rattle.finite_model.proofs.graph.total_clause.Goals as goal

pub loop-e-preserved : goal.loop-e-preserved
loop-e-preserved c =
    c.in_ok-push.ensures.ok
    ∙ (λ i. c.loop-e.invariant i ++ c.in_ok-value_literal.ensures i ∷ [])
    ∙ sym (map-range_with_len_more (value_literal c.args.graph.now.sym c.args.graph.now.arguments true) 1 c.loop-e.e (c.loop-e.e + 1) (omega arith))
