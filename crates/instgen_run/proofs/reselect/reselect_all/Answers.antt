use Rattle.std.proofs.Common.{◌≡◌, ◌<◌, ◌∷◌, ◌+◌, [], ℕ, List, arith, sym, subst, length, drop, drop-cons, add-one, get_or}
use Rattle.instgen_run.specs.Choosing.{IsUnderWay}
use Rattle.instgen_run.proofs.Withdrawn.{reselects_more, under_way_on}
use Rattle.instgen_run.proofs.reselect.reselect_all.Goals as goal

pub reselect_users-requires-clause-atom : goal.reselect_users-requires-clause-atom
reselect_users-requires-clause-atom g c =
    let k = c.loop-a.a-index in
    subst (λ (m : ℕ). get_or c.args.atoms.now k 0 < m) (sym c.loop-a.invariant.reselects.users) (c.requires.atoms k 0 (omega arith))

pub loop-a-preserved : goal.loop-a-preserved
loop-a-preserved g c =
    let u = c.in_ok-reselect_users.ensures in
    let inv = c.loop-a.invariant in
    let xs = c.args.atoms.now in
    let k = c.loop-a.a-index in
    let v = c.args.v.now in
    let short : k < length xs = omega arith in
    let next : drop k xs ≡ get_or xs k 0 ∷ drop (k + 1) xs = rw (add-one, drop-cons xs k 0) in
    record {
      orderly = u.orderly;
      selectable = u.selectable;
      reselects = reselects_more c.args.run.now c.loop-a.run c.reselect_users.new.run inv.reselects u.reselects;
      chosen = λ h.
          under_way_on c.args.run.now c.loop-a.run inv.reselects (λ ls. IsUnderWay ls v (get_or xs k 0 ∷ drop (k + 1) xs) [] c.loop-a.run.selection) (λ ls. IsUnderWay ls v (drop (k + 1) xs) [] c.reselect_users.new.run.selection)
          (u.chosen (drop (k + 1) xs)) (subst (λ (ys : List ℕ). IsUnderWay c.args.run.now.ground.literals v ys [] c.loop-a.run.selection) next (inv.chosen h));
    }
