use Rattle.std.proofs.Common.{◌≡◌, ◌++◌, ◌∷◌, [], ap, ◌∙◌}
use Rattle.cdcl_core.specs.Steps.{steps_of}
use Rattle.cdcl_core.proofs.ListedLaws.{steps_more}
use Rattle.cdcl_core.proofs.MeetLaws.{on_ok}
use Rattle.cdcl_core.proofs.steps.Steps.push.Goals as goal

pub returns-else-is_err-clause-ok : goal.returns-else-is_err-clause-ok
returns-else-is_err-clause-ok c =
    let cs = c.self.inside.clauses in
    let hs = c.self.inside.hints in
    let clause = c.args.clause.now in
    let hints = c.args.hints.now in
    on_ok c.push-pushed.result (c.push-pushed.new.self ≡ cs ++ clause ∷ []) (steps_of c.push-pushed.new.self c.push.new.self ≡ c.args.self.now ++ (record { clause = clause; hints = hints }) ∷ [])
    (λ e. ap (λ xs. steps_of xs c.push.new.self) e ∙ ap (steps_of (cs ++ clause ∷ [])) c.in_ok-push.ensures.ok ∙ steps_more cs hs clause hints c.self.invariant ∙ ap (λ ss. ss ++ (record { clause = clause; hints = hints }) ∷ []) c.self.view_is)
    c.push-pushed.ensures.ok
