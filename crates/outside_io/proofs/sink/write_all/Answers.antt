use Rattle.std.proofs.Common.{Err, ap, arith}
use Rattle.std.proofs.lemmas.Grind.{common_steps}
use Rattle.std.proofs.lemmas.Result.{err_from_is_err_and}
use Rattle.outside_io.proofs.Writing.{taken_more, taken_front, cut_off}
use Rattle.outside_io.proofs.sink.write_all.Goals as goal

pub returns-in_err-done : goal.returns-in_err-done
returns-in_err-done g c =
    let i = c.loop-done.invariant in
    let w = c.in_err-done.ensures in
    let cut = taken_front _ _ _ _ _ (omega arith) i.taken w.taken in
    let left = cut_off (g.K.Sink.seen c.args.out.now) (g.K.Sink.seen c.loop-done.out) (g.K.Sink.seen c.write.new.self) c.args.piece.now c.in_err-done.field-0.0 cut i.later i.may_want w.later w.may_want (λ h. w.failed (ap Err h)) (λ h. w.memory (ap Err h)) in
    let p = err_from_is_err_and c.from_residual.result c.from_residual.ensures.1 in
    rw (p.1, p.2) left

pub loop-done-preserved : goal.loop-done-preserved
loop-done-preserved g c =
    let i = c.loop-done.invariant in
    let w = c.in_ok-done.ensures in
    let b = w.bound in
    record {
      within = grind (arith, common_steps);
      taken = taken_more _ _ _ _ _ _ i.taken w.taken;
      later = omega arith;
      may_want = cc;
    }
