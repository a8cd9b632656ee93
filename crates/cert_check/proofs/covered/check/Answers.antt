use Rattle.std.proofs.Common.{refl, subst}
use Rattle.std.specs.Prelude.{IfErr, OnOk}
use Rattle.cert_format.specs.Certificate as format
use Rattle.cert_format.specs.Validity.{CoversPass, IsNamed, IsRightPlace}
use Rattle.cert_values.specs.Values.{base_of, covered_of}
use Rattle.cert_values.proofs.Kept.{covered_same, covered_whole}
use Rattle.cert_check.specs.Answers.{IsCheckCause}
use Rattle.cert_check.specs.Firsts.{IsFirstWrong}
use Rattle.cert_check.proofs.Bases.{none_wrong, valid_base}
use Rattle.cert_check.proofs.CoverGrowth.{covered_trans}
use Rattle.cert_check.proofs.CoveredStages.{place_first}
use Rattle.cert_check.proofs.PairScans.{valid_kept}
use Rattle.cert_check.proofs.Saturations.{keeps_saturation, saturation_same}
use Rattle.cert_check.proofs.covered.check.Goals as goal

pub returns-in-Some-clause-complaint : goal.returns-in-Some-clause-complaint
returns-in-Some-clause-complaint c =
    let cert = c.args.cert.now in
    let same = saturation_same cert.cert (record cert.cert { base = c.check_base.new.base }) c.requires.cert (keeps_saturation cert.cert c.check_base.new.base c.check_base.ensures.kept) in
    place_first (covered_of cert) (valid_base (base_of c.args.cert.now.cert.base) c.in_ok-check_base.ensures.axioms c.in_ok-check_base.ensures.members) c.in-Some.n (subst (λ (x : format.Saturation). IsFirstWrong (IsRightPlace x) c.in-Some.n) same c.in-Some.ensures)

pub compare_names-requires : goal.compare_names-requires
compare_names-requires c =
    let cert = c.args.cert.now in
    let now = record cert.cert { base = c.check_base.new.base } in
    let kept = keeps_saturation cert.cert c.check_base.new.base c.check_base.ensures.kept in
    record {
      comparable = record {
        whole = covered_whole cert now c.requires kept c.in_ok-check_base.ensures.whole;
        base = valid_kept cert.cert now c.requires.cert kept (valid_base (base_of c.args.cert.now.cert.base) c.in_ok-check_base.ensures.axioms c.in_ok-check_base.ensures.members);
        placed = none_wrong _ c.wrong_place.result c.wrong_place.ensures c.in_default.not-Some;
      };
    }

pub returns-clause-kept : goal.returns-clause-kept
returns-clause-kept c =
    let cert = c.args.cert.now in
    let now = record cert { cert = record cert.cert { base = c.check_base.new.base } } in
    covered_trans cert now c.compare_names.new.cert (record { cert = keeps_saturation cert.cert c.check_base.new.base c.check_base.ensures.kept; rest = refl }) c.compare_names.ensures.kept

pub returns-clause-named : goal.returns-clause-named
returns-clause-named c =
    let cert = c.args.cert.now in
    let now = record cert { cert = record cert.cert { base = c.check_base.new.base } } in
    let same = covered_same cert now c.requires (record { cert = keeps_saturation cert.cert c.check_base.new.base c.check_base.ensures.kept; rest = refl }) in
    subst (λ (x : format.Covered). OnOk c.compare_names.result (IsNamed x)) same c.compare_names.ensures.named

pub returns-clause-complaint : goal.returns-clause-complaint
returns-clause-complaint c =
    let cert = c.args.cert.now in
    let now = record cert { cert = record cert.cert { base = c.check_base.new.base } } in
    let same = covered_same cert now c.requires (record { cert = keeps_saturation cert.cert c.check_base.new.base c.check_base.ensures.kept; rest = refl }) in
    subst (λ (x : format.Covered). IfErr c.compare_names.result (IsCheckCause (CoversPass x))) same c.compare_names.ensures.complaint
