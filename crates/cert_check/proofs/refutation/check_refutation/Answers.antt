use Rattle.std.proofs.Common.{sym, subst}
use Rattle.cert_format.specs.Validity.{IsValidByLines}
use Rattle.cert_values.specs.Values.{refutation_of}
use Rattle.cert_values.proofs.Kept.{refutation_same}
use Rattle.cert_check.proofs.refutation.check_refutation.Goals as goal

pub invariant_of-result : goal.invariant_of-result
invariant_of-result c =
    let same = refutation_same c.args.cert c.check.new.cert c.requires c.check.ensures.kept in
    (c.in_ok-check.ensures.whole, subst IsValidByLines (sym same) c.in_ok-check.ensures.valid)

pub returns-clause-same : goal.returns-clause-same
returns-clause-same c = refutation_same c.args.cert c.check.new.cert c.requires c.check.ensures.kept

pub returns-clause-instances : goal.returns-clause-instances
returns-clause-instances c = c.valid_lines_refute.ensures.instances (refutation_of c.args.cert) c.in_ok-check.ensures.valid

pub returns-clause-refuted : goal.returns-clause-refuted
returns-clause-refuted c = c.valid_lines_refute.ensures.refuted (refutation_of c.args.cert) c.in_ok-check.ensures.valid
