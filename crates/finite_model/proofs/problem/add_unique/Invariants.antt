use Rattle.std.proofs.Common.{◌+◌, ◌-◌, map}
use Rattle.std.specs.List.{flat_map, range_with_len}
use Rattle.finite_model.specs.Adding.{Adds}
use Rattle.finite_model.specs.Flattening.{unique_clause}
use Rattle.finite_model.proofs.problem.add_unique.Given as goal

abbrev pub invariant-loop-i : goal.invariant-loop-i
invariant-loop-i l = Adds l.initial.all l.all l.graph.sym.name (flat_map (λ i. map (unique_clause l.graph.sym l.graph.arguments i) (range_with_len (i + 1) (l.k - i))) (range_with_len 1 l.i))
