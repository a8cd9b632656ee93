use Rattle.std.proofs.Common.{sym, subst}
use Rattle.cert_format.specs.Validity.{IsValidRefutation}
use Rattle.cert_values.specs.Values.{first_of}
use Rattle.cert_values.proofs.Kept.{first_same}
use Rattle.cert_check.proofs.first.check_first.Goals as goal

pub invariant_of-result : goal.invariant_of-result
invariant_of-result c =
    let same = first_same c.args.cert c.check.new.cert c.requires c.check.ensures.kept in
    (c.in_ok-check.ensures.whole, subst IsValidRefutation (sym same) c.in_ok-check.ensures.valid)

pub returns-clause-same : goal.returns-clause-same
returns-clause-same c = first_same c.args.cert c.check.new.cert c.requires c.check.ensures.kept

pub returns-clause-instances : goal.returns-clause-instances
returns-clause-instances c = c.valid_refutations_refute.ensures.instances (first_of c.args.cert) c.in_ok-check.ensures.valid

pub returns-clause-refuted : goal.returns-clause-refuted
returns-clause-refuted c = c.valid_refutations_refute.ensures.refuted (first_of c.args.cert) c.in_ok-check.ensures.valid
