use Rattle.std.proofs.Common.{◌++◌, ◌∷◌, [], set, false, ap, ◌∙◌}
use Rattle.prop_logic.proofs.PackedLaws.{set_last}
use Rattle.prop_logic.proofs.valuation.Valuation.push.Goals as goal

pub returns-clause-ok : goal.returns-clause-ok
returns-clause-ok c =
    let old = c.args.self.now in
    c.set.ensures ∙ ap (λ xs. set xs c.len-atom.result c.args.value) c.in_ok-grow.ensures.ok
    ∙ ap (λ n. set (old ++ false ∷ []) n c.args.value) c.len-atom.ensures ∙ set_last old false c.args.value
