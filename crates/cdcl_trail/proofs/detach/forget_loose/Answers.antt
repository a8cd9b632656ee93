use Rattle.std.proofs.Common.{◌≡◌, ◌≤◌, ◌<◌, length, take, Some, sym, ap, ◌∙◌, subst, arith}
use Rattle.std.specs.Prelude.{Contains, slice_get}
use Rattle.std.proofs.lemmas.List.{take_all}
use Rattle.std.proofs.lemmas.Option.{slice_get-get_or, same_Some}
use Rattle.cdcl_trail.proofs.LooseLaws.{front_removed, contains_kept}
use Rattle.cdcl_trail.proofs.WatchLaws.{contains_removed}
use Rattle.cdcl_trail.proofs.detach.forget_loose.Goals as goal

pub loop-place-preserved-then-index-n : goal.loop-place-preserved-then-index-n
loop-place-preserved-then-index-n c =
    let xs = c.loop-place.loose.items in
    let i = c.loop-place.place in
    let r = c.swap_remove.result in
    let inside : i < length xs = omega (arith, c.loop-place.loose.ok.0) in
    let at : slice_get xs i ≡ Some r = slice_get-get_or xs i r inside ∙ ap Some (sym c.swap_remove.ensures.value) in
    let same : r ≡ c.args.n = same_Some r c.index.result.now (sym at ∙ slice_get-get_or xs i c.index.result.now inside ∙ ap Some (sym c.index.ensures)) ∙ c.if-index-n.true in
    let new = c.swap_remove.ensures.items in
    record {
      gone = λ h. c.loop-place.invariant.gone (subst (λ ys. Contains ys c.args.n) (ap (take i) new ∙ (front_removed xs i r at).0) h);
      kept = λ m e h. subst (λ ys. Contains ys m) (sym new) (contains_kept xs i r m at (c.loop-place.invariant.kept m e h) (λ f. e (f ∙ same)));
      short = omega (arith, c.loop-place.invariant.short, ap length new, (front_removed xs i r at).1);
      old = λ m h. c.loop-place.invariant.old m (contains_removed xs i r m at (subst (λ ys. Contains ys m) new h));
    }

pub returns-clause-gone : goal.returns-clause-gone
returns-clause-gone c h =
    let past : length c.loop-place.loose.items ≤ c.loop-place.place = omega (arith, c.loop-place.loose.ok.0) in
    c.loop-place.invariant.gone (subst (λ ys. Contains ys c.args.n) (sym (take_all c.loop-place.place c.loop-place.loose.items past)) h)
