use Rattle.std.proofs.Common.{◌≡◌, List, ap, ◌∙◌, get_or, refl}
use Rattle.std.proofs.lemmas.Result.{IfOk-weaker}
use Rattle.cert_values.specs.declared.member.Member.{Member}
use Rattle.cert_check.proofs.Rightness.{allowed_by}
use Rattle.cert_check.proofs.Refutations.{not_true}
use Rattle.cert_check.proofs.base.is_allowed.Goals as goal

pub returns-then-not-is_allowed_origin-clause-allowed : goal.returns-then-not-is_allowed_origin-clause-allowed
returns-then-not-is_allowed_origin-clause-allowed c =
    let b = c.args.base.now in
    let m = c.index-as_slice-i.result in
    let is : m ≡ get_or b.members c.args.i m = c.index-as_slice-i.is ∙ ap (λ (xs : List Member). get_or xs c.args.i m) c.as_slice.ensures in
    let by = allowed_by b c.args.i m c.requires.within is c.args.lemmas in (
      (λ t. absurd cc),
      (λ h. absurd (not_true c.is_allowed_origin.result c.is_allowed_origin.result refl c.if-not-is_allowed_origin.true (c.is_allowed_origin.ensures.1 (by.1 h).0))),
    )

pub returns-clause-allowed : goal.returns-clause-allowed
returns-clause-allowed c =
    let b = c.args.base.now in
    let m = c.index-as_slice-i.result in
    let is : m ≡ get_or b.members c.args.i m = c.index-as_slice-i.is ∙ ap (λ (xs : List Member). get_or xs c.args.i m) c.as_slice.ensures in
    let by = allowed_by b c.args.i m c.requires.within is c.args.lemmas in
    let origin = c.is_allowed_origin.ensures.0 c.if-not-is_allowed_origin.false in
    IfOk-weaker c.is_right.result _ _ (λ _ g. (λ t. by.0 (origin, g.0 t), λ h. g.1 (by.1 h).1)) c.is_right.ensures.right
