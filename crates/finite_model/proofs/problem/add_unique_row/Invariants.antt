use Rattle.std.proofs.Common.{◌+◌, map}
use Rattle.std.specs.List.{range_with_len}
use Rattle.finite_model.specs.Adding.{Adds}
use Rattle.finite_model.specs.Flattening.{unique_clause}
use Rattle.finite_model.proofs.problem.add_unique_row.Given as goal

abbrev pub invariant-loop-n : goal.invariant-loop-n
invariant-loop-n l = Adds l.initial.all l.all l.graph.sym.name (map (unique_clause l.graph.sym l.graph.arguments l.i) (range_with_len (l.i + 1) l.n))
