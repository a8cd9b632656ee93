use Rattle.std.proofs.Common.{arith, ◌≡◌, ◌≤◌, ◌++◌, ◌-◌, vec_len, ◌∙◌, ap, subst, List, ℕ, Bool, length, take, replicate}
use Rattle.std.specs.Prelude.{map, ◌==◌}
use Rattle.std.proofs.lemmas.List.{take_all}
use Rattle.instgen_run.specs.Tested.{IsTested}
use Rattle.instgen_run.proofs.TestedLaws.{zeros_are_untested}
use Rattle.instgen_run.proofs.tested.Tested.reach.Goals as goal

pub returns-in_ok-resize-clause-kept : goal.returns-in_ok-resize-clause-kept
returns-in_ok-resize-clause-kept c = λ j e.
    let xs = c.self.inside.stamps.items in
    let p = c.self.inside.present in
    let short : length xs ≤ c.in-Some.len = omega (arith, c.len.ensures, c.self.inside.stamps.ok.0) in
    let n = c.in-Some.len - vec_len c.self.inside.stamps in
    let all : take c.in-Some.len xs ≡ xs = take_all c.in-Some.len xs short in
    let items : c.resize.new.self.items ≡ xs ++ replicate n 0 = c.in_ok-resize.ensures.items ∙ ap (λ ys. ys ++ replicate n 0) all in
    subst (λ (m : List Bool). IsTested m j) c.self.view_is
    (zeros_are_untested xs n p c.self.invariant.begun j (subst (λ (ys : List ℕ). IsTested (map (λ s. s == p) ys) j) items e))
