use Rattle.std.proofs.Common.{◌≡◌, ◌++◌, ◌∷◌, [], refl}
use Rattle.prop_logic.specs.declared.literal.Step.{Step}
use Rattle.cdcl_core.specs.declared.search.Search.{Search}
use Rattle.cdcl_core.specs.Search.{IsKept}
use Rattle.cdcl_core.proofs.MeetLaws.{on_ok}
use Rattle.cdcl_core.proofs.KeptLaws.{step_kept}
use Rattle.cdcl_core.proofs.search.Search.push_step.Goals as goal

pub returns-clause-kept : goal.returns-clause-kept
returns-clause-kept c =
    let old = c.args.self.now in
    let new : Search = record old { log = record old.log { steps = c.push.new.self } } in
    let s : Step = record { clause = c.args.clause.now; hints = c.args.hints.now } in
    on_ok c.push.result (c.push.new.self ≡ old.log.steps ++ s ∷ []) (IsKept new)
    (λ e. step_kept old new c.args.clause.now c.args.hints.now c.requires.atoms c.requires.closes refl e refl refl refl refl refl c.requires.kept)
    c.push.ensures.ok
