use Rattle.std.proofs.Common.{◌++◌, ◌∷◌, [], set, true, map, ap, ◌∙◌}
use Rattle.inst_logic.specs.Signed.{complement}
use Rattle.prop_logic.specs.declared.literal.Step.{Step}
use Rattle.cdcl_core.proofs.GoLaws.{clash_ends}
use Rattle.cdcl_core.proofs.search.Search.clash.Goals as goal

pub returns-clause-ends : goal.returns-clause-ends
returns-clause-ends c =
    let s : Step = record { clause = c.in_ok-clause.clause; hints = c.new.result } in
    let is = c.in_ok-push.ensures.ok ∙ ap (λ x. x ++ s ∷ []) c.new-derivation.ensures
    ∙ ap (λ x. (record { clause = x; hints = c.new.result }) ∷ []) (c.in_ok-clause.ensures ∙ ap (map complement) c.as_slice.ensures)
    ∙ ap (λ h. (record { clause = map complement c.in_ok-core.core; hints = h }) ∷ []) c.new.ensures in
    clash_ends c.args.assumptions.now c.in_ok-core.core c.args.self.now c.insert.new.self c.see_conflict.new.self c.args.lit c.push.new.self (c.insert.ensures ∙ ap (λ x. set x c.args.lit.atom true) c.clear.ensures)
    c.requires.search.kept c.requires.atoms c.in_ok-core.ensures c.requires.assumption c.requires.other c.requires.decided is
