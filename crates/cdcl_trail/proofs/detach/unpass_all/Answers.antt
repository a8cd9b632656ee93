use Rattle.std.proofs.Common.{◌≡◌, ◌+◌, ◌<◌, ◌++◌, suc, length, map, take, drop, set, get_or, ap, ◌∙◌, arith}
use Rattle.cdcl_trail.specs.Detach.{unpassed}
use Rattle.cdcl_trail.proofs.DetachLaws.{set_step, read_step}
use Rattle.cdcl_trail.proofs.detach.unpass_all.Goals as goal

pub loop-place-preserved : goal.loop-place-preserved
loop-place-preserved c =
    let xs = c.args.heads.now.items in
    let p = c.loop-place.place in
    let h = c.index_mut.result.now in
    let is : h ≡ get_or xs p h = c.index_mut.ensures.value ∙ ap (λ ys. get_or ys p h) c.loop-place.invariant.done ∙ read_step xs p h in
    let inside : p < length xs = omega (arith, c.loop-place-test.true, c.len-place-end.ensures, c.args.heads.now.ok.0) in
    let n : suc p ≡ p + 1 = omega arith in
    record {
      done = ap (λ ys. set ys p (unpassed h)) c.loop-place.invariant.done ∙ ap (λ x. set (map unpassed (take p xs) ++ drop p xs) p (unpassed x)) is ∙ set_step xs p h inside ∙ ap (λ i. map unpassed (take i xs) ++ drop i xs) n;
      capacity = c.loop-place.invariant.capacity;
    }
