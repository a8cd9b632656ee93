use Rattle.std.proofs.Common.{subst}
use Rattle.cert_format.specs.Validity.{IsValidSaturation}
use Rattle.cert_values.specs.Values.{covered_of, saturation_of}
use Rattle.cert_index.proofs.SelectedAtoms.{members_formed}
use Rattle.cert_check.proofs.saturation.check_saturation.Goals as goal

pub invariant_of-result : goal.invariant_of-result
invariant_of-result c =
    (c.in_ok-cert.ensures.whole.cert, c.named_is_valid.ensures.valid (covered_of c.in_ok-cert.field-0) c.in_ok-cert.ensures.named)

pub returns-clause-valid : goal.returns-clause-valid
returns-clause-valid c =
    subst IsValidSaturation c.in_ok-cert.ensures.same (c.named_is_valid.ensures.valid (covered_of c.in_ok-cert.field-0) c.in_ok-cert.ensures.named)

pub returns-clause-saturated : goal.returns-clause-saturated
returns-clause-saturated c = c.valid_saturations_are_models.ensures.saturated (saturation_of c.args.cert) (returns-clause-valid c)

pub returns-clause-makes : goal.returns-clause-makes
returns-clause-makes c = c.valid_saturations_are_models.ensures.makes (saturation_of c.args.cert) (members_formed c.args.cert c.requires) (returns-clause-valid c)
