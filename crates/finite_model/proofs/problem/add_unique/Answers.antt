use Rattle.std.proofs.Common.{◌+◌, ◌-◌, map, arith}
use Rattle.std.specs.List.{range_with_len}
use Rattle.finite_model.specs.Flattening.{unique_clause}
use Rattle.finite_model.proofs.AddedClauses.{adds_next_row}
use Rattle.finite_model.proofs.problem.add_unique.Goals as goal

pub loop-i-preserved : goal.loop-i-preserved
loop-i-preserved c =
    adds_next_row c.args.all.now c.loop-i.all c.add_unique_row.new.all c.args.graph.now.sym.name
    (λ i. map (unique_clause c.args.graph.now.sym c.args.graph.now.arguments i) (range_with_len (i + 1) (c.args.k - i))) 1 c.loop-i.i (c.loop-i.i + 1) (omega arith) c.loop-i.invariant c.in_ok-add_unique_row.ensures
