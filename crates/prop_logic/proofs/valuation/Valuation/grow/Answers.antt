use Rattle.std.proofs.Common.{◌+◌, ◌++◌, ◌∷◌, [], false, ap, ◌∙◌, arith}
use Rattle.prop_logic.proofs.PackedLaws.{values_more}
use Rattle.prop_logic.proofs.valuation.Valuation.grow.Goals as goal

pub returns-clause-ok : goal.returns-clause-ok
returns-clause-ok c =
    let s = c.self.inside in
    c.in_ok-take_room.ensures.values (s.len + 1) ∙ values_more s.words.items s.len (c.self.invariant.2 s.len (omega arith)) ∙ ap (λ xs. xs ++ false ∷ []) c.self.view_is
