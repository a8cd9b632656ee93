use Rattle.std.proofs.Common.{◌≡◌, ◌≢◌, List, [], ap, sym, ◌∙◌, get_or, refl}
use Rattle.prop_logic.specs.declared.literal.Step.{Step}
use Rattle.cert_check.proofs.Refutations.{not_true}
use Rattle.cert_check.proofs.RightSteps.{unhinted_wrong, shown_is_right}
use Rattle.cert_check.proofs.steps.is_right.Goals as goal

pub returns-then-is_empty-clause-right : goal.returns-then-is_empty-clause-right
returns-then-is_empty-clause-right c =
    let ss = c.args.derivation.now in
    let s = c.index-as_slice-i.result in
    let is : s ≡ get_or ss c.args.i s = c.index-as_slice-i.is ∙ ap (λ (xs : List Step). get_or xs c.args.i s) c.as_slice.ensures in
    (λ t u e. absurd (cc), λ r. absurd (unhinted_wrong c.args.given.now ss c.args.i s c.requires.within is (ap (λ (x : Step). x.hints) c.index-as_slice-i.is ∙ c.is_empty.ensures.0 c.if-is_empty.true) r))

pub returns-clause-right : goal.returns-clause-right
returns-clause-right c =
    let ss = c.args.derivation.now in
    let s = c.index-as_slice-i.result in
    let is : s ≡ get_or ss c.args.i s = c.index-as_slice-i.is ∙ ap (λ (xs : List Step). get_or xs c.args.i s) c.as_slice.ensures in
    let hinted : s.hints ≢ [] = λ e. not_true c.is_empty.result c.is_empty.result refl c.if-is_empty.false (c.is_empty.ensures.1 (sym (ap (λ (x : Step). x.hints) c.index-as_slice-i.is) ∙ e)) in
    let both = shown_is_right c.args.given.now ss c.args.i s c.requires.within is hinted in
    (λ t. both.0 (c.step.ensures.shown.0 t), λ r. c.step.ensures.shown.1 (both.1 r))
