use Rattle.std.proofs.Common.{sym, ◌∙◌, subst}
use Rattle.inst_logic.specs.Tree.{Tree}
use Rattle.inst_logic.specs.Unifiers.{IsApplication}
use Rattle.unify_core.proofs.Chains.{shape_application}
use Rattle.unify_core.proofs.MatchSteps.{number_differs, cannot_ground}
use Rattle.clause_form.proofs.clashes.may_become.Goals as goal

pub returns-then-ground : goal.returns-then-ground
returns-then-ground c h =
    cannot_ground c.args.bank.now c.args.pattern c.args.target c.distinct.ensures c.requires.pattern c.requires.target (sym c.ground.ensures.test ∙ c.if-ground.true) (number_differs c.args.pattern c.args.target (sym c.eq.ensures ∙ h))

pub arguments_may_become-requires-clause-application : goal.arguments_may_become-requires-clause-application
arguments_may_become-requires-clause-application c =
    let a = shape_application _ c.in-App.ensures in
    subst (λ (z : Tree). IsApplication z) (sym a.2) tt
