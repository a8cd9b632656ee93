use Rattle.std.proofs.Common.{map, set, true, refl, ap, ◌∙◌, eq-eqb}
use Rattle.std.specs.Prelude.{◌==◌}
use Rattle.std.proofs.lemmas.List.{map-set}
use Rattle.cdcl_core.proofs.seen.Seen.insert.Goals as goal

pub returns : goal.returns
returns c =
    let p = c.self.inside.present in
    let xs = c.self.inside.stamps.items in
    map-set (λ s. s == p) xs c.args.atom p ∙ ap (set (map (λ s. s == p) xs) c.args.atom) (eq-eqb p p refl) ∙ ap (λ m. set m c.args.atom true) c.self.view_is
