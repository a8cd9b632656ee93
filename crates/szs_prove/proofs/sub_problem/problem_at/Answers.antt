use Rattle.std.proofs.Common.{get_or, refl, arith}
use Rattle.szs_prove.proofs.SubProblems.{added_so_far}
use Rattle.szs_prove.proofs.sub_problem.problem_at.Goals as goal

pub loop-i-preserved : goal.loop-i-preserved
loop-i-preserved c =
    added_so_far c.args.p.now c.loop-i.sub c.add.new.sub c.args.places.now c.loop-i.i 0 (get_or c.args.places.now c.loop-i.i 0) (omega arith) refl c.loop-i.invariant c.in_ok-add.ensures.clauses c.in_ok-add.ensures.names
