use Rattle.std.proofs.Common.{arith}
use Rattle.clause_form.proofs.SomeComplement.{one_more}
use Rattle.clause_form.proofs.complements.set_of.Goals as goal

pub loop-l-preserved : goal.loop-l-preserved
loop-l-preserved c =
    one_more c.args.literals.now c.loop-l.l-index c.l-item.result c.loop-l.all.keys c.add.new.all.keys (omega arith) c.l-item.is c.loop-l.invariant c.in_ok-add.ensures
