use Rattle.std.proofs.Common.{◌≡◌, ◌<◌, length, sym, ap, ◌∙◌, arith}
use Rattle.std.proofs.lemmas.Option.{same_Some}
use Rattle.cdcl_trail.specs.Watch.{slot_of}
use Rattle.cdcl_trail.specs.declared.watch.Watch.{Watch}
use Rattle.cdcl_trail.proofs.DetachLaws.{unwatch_dropped, unwatch_kept}
use Rattle.cdcl_trail.proofs.detach.unwatch_one.Goals as goal

pub loop-place-preserved-then-watch_at-n : goal.loop-place-preserved-then-watch_at-n
loop-place-preserved-then-watch_at-n c =
    let w = c.watch_at.result in
    let same : w.number ≡ c.args.n = c.if-watch_at-n.true in
    let r = c.drop_watch.result in
    let is : r.number ≡ c.args.n = ap (λ (x : Watch). x.number) (same_Some r w (sym c.drop_watch.ensures.value ∙ c.watch_at.ensures.watch)) ∙ same in
    let inside : slot_of c.args.l < length c.loop-place.lists = omega (arith, c.requires, c.loop-place.invariant.size) in
    unwatch_dropped c.args.n (slot_of c.args.l) c.loop-place.place c.args.lists.now c.loop-place.lists c.drop_watch.new.lists r c.loop-place.invariant inside c.drop_watch.ensures.value is c.drop_watch.ensures.dropped

pub loop-place-preserved : goal.loop-place-preserved
loop-place-preserved c =
    let w = c.watch_at.result in
    unwatch_kept c.args.n (slot_of c.args.l) c.loop-place.place c.args.lists.now c.loop-place.lists w c.loop-place.invariant c.watch_at.ensures.watch c.if-watch_at-n.false
