use Rattle.std.proofs.Common.{sym, subst}
use Rattle.cert_format.specs.Validity.{IsNamed}
use Rattle.cert_values.specs.Values.{covered_of, saturation_of}
use Rattle.cert_values.proofs.Kept.{covered_same}
use Rattle.cert_index.proofs.SelectedAtoms.{members_formed}
use Rattle.cert_check.proofs.covered.check_covered.Goals as goal

pub invariant_of-result : goal.invariant_of-result
invariant_of-result c =
    let same = covered_same c.args.cert c.check.new.cert c.requires c.check.ensures.kept in
    (c.in_ok-check.ensures.whole, subst IsNamed (sym same) c.in_ok-check.ensures.named)

pub returns-clause-same : goal.returns-clause-same
returns-clause-same c = covered_same c.args.cert c.check.new.cert c.requires c.check.ensures.kept

pub returns-clause-saturated : goal.returns-clause-saturated
returns-clause-saturated c = c.named_is_valid.ensures.saturated (covered_of c.args.cert) c.in_ok-check.ensures.named

pub returns-clause-makes : goal.returns-clause-makes
returns-clause-makes c =
    c.valid_saturations_are_models.ensures.makes (saturation_of c.args.cert.cert) (members_formed c.args.cert.cert c.requires.cert) (c.named_is_valid.ensures.valid (covered_of c.args.cert) c.in_ok-check.ensures.named)
