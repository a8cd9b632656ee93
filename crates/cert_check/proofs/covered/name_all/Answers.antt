use Rattle.std.proofs.Common.{subst}
use Rattle.cert_format.specs.Certificate as format
use Rattle.std.specs.Prelude.{IfErr}
use Rattle.cert_format.specs.Validity.{IsRightPlace, SaturationPasses}
use Rattle.cert_values.specs.Values.{base_of, saturation_of}
use Rattle.cert_values.proofs.Kept.{covered_whole}
use Rattle.cert_check.specs.Answers.{IsCheckCause}
use Rattle.cert_check.specs.Firsts.{IsFirstWrong}
use Rattle.cert_check.proofs.Bases.{valid_base}
use Rattle.cert_check.proofs.Saturations.{saturation_same, keeps_saturation, keeps_saturation_trans, place_first}
use Rattle.cert_check.proofs.PairScans.{valid_kept}
use Rattle.cert_check.proofs.covered.name_all.Goals as goal

pub returns-in-Some-clause-complaint : goal.returns-in-Some-clause-complaint
returns-in-Some-clause-complaint c =
    let cert = c.args.cert.now.cert in
    let same = saturation_same cert (record cert { base = c.check_base.new.base }) c.requires.whole.cert (keeps_saturation cert c.check_base.new.base c.check_base.ensures.kept) in
    place_first (saturation_of cert) (valid_base (base_of c.args.cert.now.cert.base) c.in_ok-check_base.ensures.axioms c.in_ok-check_base.ensures.members) c.in-Some.n (subst (λ (x : format.Saturation). IsFirstWrong (IsRightPlace x) c.in-Some.n) same c.in-Some.ensures)

pub name_selection-requires-clause-whole : goal.name_selection-requires-clause-whole
name_selection-requires-clause-whole c =
    let cert = c.args.cert.now in
    covered_whole cert (record cert.cert { base = c.check_base.new.base }) c.requires.whole (keeps_saturation cert.cert c.check_base.new.base c.check_base.ensures.kept) c.in_ok-check_base.ensures.whole

pub name_selection-requires-clause-base : goal.name_selection-requires-clause-base
name_selection-requires-clause-base c =
    let cert = c.args.cert.now.cert in
    valid_kept cert (record cert { base = c.check_base.new.base }) c.requires.whole.cert (keeps_saturation cert c.check_base.new.base c.check_base.ensures.kept) (valid_base (base_of c.args.cert.now.cert.base) c.in_ok-check_base.ensures.axioms c.in_ok-check_base.ensures.members)

pub returns-clause-kept : goal.returns-clause-kept
returns-clause-kept c =
    let cert = c.args.cert.now.cert in
    keeps_saturation_trans cert (record cert { base = c.check_base.new.base }) c.name_selection.new.cert.cert (keeps_saturation cert c.check_base.new.base c.check_base.ensures.kept) c.name_selection.ensures.kept

pub returns-clause-complaint : goal.returns-clause-complaint
returns-clause-complaint c =
    let cert = c.args.cert.now.cert in
    let same = saturation_same cert (record cert { base = c.check_base.new.base }) c.requires.whole.cert (keeps_saturation cert c.check_base.new.base c.check_base.ensures.kept) in
    subst (λ (x : format.Saturation). IfErr c.name_selection.result (IsCheckCause (SaturationPasses x))) same c.name_selection.ensures.complaint
