use Rattle.std.proofs.Common.{◌+◌, subst, [], ◌∷◌, arith}
use Rattle.finite_model.specs.Adding.{Adds}
use Rattle.finite_model.specs.Flattening.{unique_clause}
use Rattle.finite_model.proofs.AddedClauses.{adds_next}
use Rattle.finite_model.proofs.problem.add_unique_row.Goals as goal

pub loop-n-preserved : goal.loop-n-preserved
loop-n-preserved c =
    adds_next c.args.all.now c.loop-n.all c.add.new.all c.args.graph.now.sym.name (unique_clause c.args.graph.now.sym c.args.graph.now.arguments c.args.i) (c.args.i + 1) c.loop-n.n (c.args.i + 1 + c.loop-n.n) (omega arith) c.loop-n.invariant
    (subst (λ d. Adds c.loop-n.all c.add.new.all c.args.graph.now.sym.name (d ∷ [])) c.in_ok-c.ensures c.in_ok-add.ensures)
