use Rattle.std.proofs.Common.{◌≡◌, ◌+◌, ◌∙◌, ◌++◌, ◌∷◌, [], ℕ, List, ap, length, length-append, arith, refl}
use Rattle.instgen_run.proofs.settle.place_new.Goals as goal

append_again : (xs ys zs : List ℕ) → (xs ++ ys) ++ zs ≡ xs ++ (ys ++ zs)
append_again [] ys zs = refl
append_again (x ∷ xs) ys zs = ap (λ ws. x ∷ ws) (append_again xs ys zs)

pub loop-preserved : goal.loop-preserved
loop-preserved c =
    let u = c.in_ok-place_next.ensures in
    let inv = c.loop.invariant in
    let (place, e) = u.grows in
    let (more, q) = inv.grows in
    let n : length c.place_next.new.selection.places ≡ length c.loop.selection.places + 1 = ap length e ∙ length-append c.loop.selection.places (place ∷ []) in
    record {
      count = let k = inv.count in omega arith;
      under_way = u.under_way;
      numbers = u.numbers;
      users = u.users ∙ inv.users;
      grows = (more ++ place ∷ [], e ∙ ap (λ ps. ps ++ place ∷ []) q ∙ append_again c.args.selection.now.places more (place ∷ []));
    }
