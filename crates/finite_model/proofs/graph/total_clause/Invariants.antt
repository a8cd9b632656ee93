use Rattle.std.proofs.Common.{◌≡◌, map, true}
use Rattle.std.specs.List.{range_with_len}
use Rattle.finite_model.specs.Flattening.{value_literal}
use Rattle.finite_model.proofs.graph.total_clause.Given as goal

abbrev pub invariant-loop-e : goal.invariant-loop-e
invariant-loop-e l = l.c ≡ map (value_literal l.graph.sym l.graph.arguments true) (range_with_len 1 l.e)
