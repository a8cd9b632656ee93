use Rattle.std.proofs.Common.{map, set, true, refl, ap, ◌∙◌, eq-eqb}
use Rattle.std.specs.Prelude.{◌==◌}
use Rattle.std.proofs.lemmas.List.{map-set}
use Rattle.instgen_run.proofs.tested.Tested.stamp.Goals as goal

pub returns : goal.returns
returns c =
    let p = c.self.inside.present in
    let xs = c.self.inside.stamps.items in
    map-set (λ s. s == p) xs c.args.k p ∙ ap (set (map (λ s. s == p) xs) c.args.k) (eq-eqb p p refl) ∙ ap (λ m. set m c.args.k true) c.self.view_is
