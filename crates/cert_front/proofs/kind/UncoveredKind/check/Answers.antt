use Rattle.std.proofs.Common.{◌∙◌, ap, subst}
use Rattle.std.proofs.lemmas.Result.{IfOk-weaker, IfErr-weaker}
use Rattle.cert_format.specs.Certificate as format
use Rattle.cert_format.specs.Certificate.{saturation}
use Rattle.cert_format.specs.Validity.{CoversPass, IsValidSaturation}
use Rattle.cert_values.specs.Values.{covered_of}
use Rattle.cert_front.proofs.NoComplaint.{never_complains}
use Rattle.cert_front.proofs.kind.UncoveredKind.check.Goals as goal

pub returns-clause-valid : goal.returns-clause-valid
returns-clause-valid c =
    let valid = subst IsValidSaturation c.in_ok-covered.ensures.same (c.named_is_valid.ensures.valid (covered_of c.in_ok-covered.covered) c.in_ok-covered.ensures.named) in
    IfOk-weaker c.check_covered.result _ _ (λ _ _. valid) c.check_covered.ensures.same

pub returns-clause-same : goal.returns-clause-same
returns-clause-same c =
    IfOk-weaker c.check_covered.result _ _ (λ _ e. ap (λ (x : format.Covered). saturation x.saturation) e ∙ ap saturation c.in_ok-covered.ensures.same) c.check_covered.ensures.same

pub returns-clause-complaint : goal.returns-clause-complaint
returns-clause-complaint c =
    IfErr-weaker c.check_covered.result _ _ (λ e cause. never_complains (CoversPass (covered_of c.in_ok-covered.covered)) _ e c.in_ok-covered.ensures.named cause) c.check_covered.ensures.complaint
