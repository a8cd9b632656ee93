use Rattle.std.proofs.Common.{◌≡◌, ◌<◌, ◌≤◌, ◌∷◌, ◌+◌, ℕ, List, arith, sym, subst, length, drop, drop-cons, add-one, get_or}
use Rattle.instgen_run.specs.Choosing.{IsUnderWay}
use Rattle.instgen_run.proofs.Withdrawn.{reselects_more, under_way_on}
use Rattle.instgen_run.proofs.reselect.reselect_each.Goals as goal

pub reselect-requires-clause-within : goal.reselect-requires-clause-within
reselect-requires-clause-within g c =
    let k = c.loop-n.n-index in
    subst (λ (m : ℕ). (0 < get_or c.args.entries.now k 0) × (get_or c.args.entries.now k 0 ≤ m)) (sym c.loop-n.invariant.reselects.count) (c.requires.within k 0 (omega arith))

pub loop-n-preserved : goal.loop-n-preserved
loop-n-preserved g c =
    let u = c.in_ok-reselect.ensures in
    let inv = c.loop-n.invariant in
    let xs = c.args.entries.now in
    let k = c.loop-n.n-index in
    let v = c.args.v.now in
    let short : k < length xs = omega arith in
    let next : drop k xs ≡ get_or xs k 0 ∷ drop (k + 1) xs = rw (add-one, drop-cons xs k 0) in
    record {
      orderly = u.orderly;
      selectable = u.selectable;
      reselects = reselects_more c.args.run.now c.loop-n.run c.reselect.new.run inv.reselects u.reselects;
      chosen = λ left h.
          under_way_on c.args.run.now c.loop-n.run inv.reselects (λ ls. IsUnderWay ls v left (get_or xs k 0 ∷ drop (k + 1) xs) c.loop-n.run.selection) (λ ls. IsUnderWay ls v left (drop (k + 1) xs) c.reselect.new.run.selection)
          (u.chosen left (drop (k + 1) xs)) (subst (λ (ys : List ℕ). IsUnderWay c.args.run.now.ground.literals v left ys c.loop-n.run.selection) next (inv.chosen left h));
    }
