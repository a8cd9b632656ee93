use Rattle.std.proofs.Common.{refl}
use Rattle.cert_values.specs.Values.{refutation_of}
use Rattle.cert_values.proofs.Kept.{refutation_whole}
use Rattle.cert_check.proofs.Bases.{none_wrong, some_wrong}
use Rattle.cert_check.proofs.Refutations.{line_wrong, right_lines, whole_base}
use Rattle.cert_check.proofs.Rightness.{ids_of}
use Rattle.cert_check.proofs.refutation.check_lines.Goals as goal

pub first_wrong_line-requires-clause-inputs : goal.first_wrong_line-requires-clause-inputs
first_wrong_line-requires-clause-inputs c = ids_of c.args.cert.now.base.bank c.args.cert.now.base.inputs c.requires.whole.base.inputs

pub first_wrong_line-requires-clause-axioms : goal.first_wrong_line-requires-clause-axioms
first_wrong_line-requires-clause-axioms c = ids_of c.args.cert.now.base.bank c.args.cert.now.base.axioms c.requires.whole.base.axioms

pub returns-in-Some-clause-complaint : goal.returns-in-Some-clause-complaint
returns-in-Some-clause-complaint c =
    let r = c.args.cert.now in
    let first = right_lines r c.requires.axioms c.in_ok-n.field-0 c.in_ok-n.ensures.first in
    line_wrong (refutation_of r) c.requires.axioms c.requires.members c.requires.constant c.in-Some.n (some_wrong _ c.in_ok-n.field-0 c.in-Some.n first c.in-Some.is)

pub returns-clause-whole : goal.returns-clause-whole
returns-clause-whole c =
    let r = c.args.cert.now in
    let g = c.first_wrong_line.new.bank in
    refutation_whole r (record r.base { bank = g }) c.requires.whole (record { bank = c.first_wrong_line.ensures.grows.0; rest = refl })
    (whole_base r.base g c.requires.whole.base c.first_wrong_line.ensures.grows.0 (c.first_wrong_line.ensures.grows.1 c.requires.whole.base.bank))

pub returns-clause-lines : goal.returns-clause-lines
returns-clause-lines c = none_wrong _ c.in_ok-n.field-0 (right_lines c.args.cert.now c.requires.axioms c.in_ok-n.field-0 c.in_ok-n.ensures.first) c.in_default.not-Some
