use Rattle.std.proofs.Common.{◌≡◌, ◌∙◌, ◌<◌, length, get_or, true, false, sym, suc, subst, arith, List}
use Rattle.std.proofs.lemmas.List.{length-map}
use Rattle.cert_format.specs.Certificate as format
use Rattle.cert_format.specs.Validity.{IsProperPair}
use Rattle.cert_values.specs.Values.{covered_of, saturation_of, entry_of}
use Rattle.cert_values.specs.declared.member.Member.{Member}
use Rattle.cert_values.proofs.Kept.{covered_same}
use Rattle.cert_check.specs.Firsts.{IsFirstWrong}
use Rattle.cert_check.specs.DueSteps.{AreCompared, GivesPair}
use Rattle.cert_check.proofs.CoverGrowth.{comparable_kept, covered_itself, covered_trans}
use Rattle.cert_check.proofs.PairScans.{of_proper}
use Rattle.cert_check.proofs.RowScans.{among_all, among_wrong, due_begins, due_ends, due_more, item_is, item_later, item_within}
use Rattle.cert_check.proofs.compare.compare_among.Goals as goal

pub loop-j-init : goal.loop-j-init
loop-j-init c =
    let cert = c.args.cert.now in
    let old = saturation_of cert.cert in
    record {
      kept = covered_itself cert;
      whole = c.requires.comparable.whole;
      counted = c.requires.counted;
      among = due_begins old c.args.i (IsProperPair old) (of_proper old) (omega (arith, c.requires.within, length-map cert.cert.base.members (entry_of cert.cert.base.bank))) c.args.partners.now c.requires.partners
          (AreCompared (covered_of cert) c.args.progress.now);
    }

pub compare_pair-requires-clause-comparable : goal.compare_pair-requires-clause-comparable
compare_pair-requires-clause-comparable c = comparable_kept c.args.cert.now c.loop-j.cert c.requires.comparable c.loop-j.invariant.kept c.loop-j.invariant.whole

pub compare_pair-requires-clause-left : goal.compare_pair-requires-clause-left
compare_pair-requires-clause-left c =
    let old = saturation_of c.args.cert.now.cert in
    item_later old c.args.i (IsProperPair old) (of_proper old) c.args.partners.now c.loop-j.j-index c.loop-j.invariant.among.among (get_or c.args.partners.now c.loop-j.j-index 0) (omega (arith, c.loop-j-test.true)) (item_is c.args.partners.now c.loop-j.j-index (omega (arith, c.loop-j-test.true)))

pub compare_pair-requires-clause-right : goal.compare_pair-requires-clause-right
compare_pair-requires-clause-right c =
    let old = saturation_of c.args.cert.now.cert in
    let now = c.loop-j.cert in
    let w = item_within old c.args.i (IsProperPair old) (of_proper old) c.args.partners.now c.loop-j.j-index c.loop-j.invariant.among.among (get_or c.args.partners.now c.loop-j.j-index 0) (omega (arith, c.loop-j-test.true)) (item_is c.args.partners.now c.loop-j.j-index (omega (arith, c.loop-j-test.true))) in
    let e = covered_same c.args.cert.now now c.requires.comparable.whole c.loop-j.invariant.kept in
    let here = subst (λ (x : format.Covered). get_or c.args.partners.now c.loop-j.j-index 0 < length x.saturation.base.members) (sym e) w in
    omega (arith, here, length-map now.cert.base.members (entry_of now.cert.base.bank))

pub number_at-requires : goal.number_at-requires
number_at-requires c =
    let old = saturation_of c.args.cert.now.cert in
    let next = c.compare_pair.new.cert in
    let w = item_within old c.args.i (IsProperPair old) (of_proper old) c.args.partners.now c.loop-j.j-index c.loop-j.invariant.among.among (get_or c.args.partners.now c.loop-j.j-index 0) (omega (arith, c.loop-j-test.true)) (item_is c.args.partners.now c.loop-j.j-index (omega (arith, c.loop-j-test.true))) in
    let e = covered_same c.args.cert.now next c.requires.comparable.whole (covered_trans c.args.cert.now c.loop-j.cert next c.loop-j.invariant.kept c.compare_pair.ensures.kept) in
    let here = subst (λ (x : format.Covered). get_or c.args.partners.now c.loop-j.j-index 0 < length x.saturation.base.members) (sym e) w in
    subst (λ (ms : List Member). get_or c.args.partners.now c.loop-j.j-index 0 < length ms) (sym c.as_slice-members.ensures) (omega (arith, here, length-map next.cert.base.members (entry_of next.cert.base.bank)))

pub returns-then-not-branch-clause-first : goal.returns-then-not-branch-clause-first
returns-then-not-branch-clause-first c =
    let old = saturation_of c.args.cert.now.cert in
    let same = covered_same c.args.cert.now c.loop-j.cert c.requires.comparable.whole c.loop-j.invariant.kept in
    subst (IsFirstWrong (IsProperPair old (suc c.args.i))) (sym c.number_at.ensures)
    (among_wrong old c.args.i (IsProperPair old) (of_proper old) c.args.partners.now c.loop-j.j-index c.loop-j.invariant.among.among (get_or c.args.partners.now c.loop-j.j-index 0) (omega (arith, c.loop-j-test.true)) (item_is c.args.partners.now c.loop-j.j-index (omega (arith, c.loop-j-test.true)))
    (subst (λ (x : format.Covered). ¬ IsProperPair x.saturation (suc c.args.i) (suc (get_or c.args.partners.now c.loop-j.j-index 0))) same (λ h. let t : true ≡ false = sym (c.in_ok-compare_pair.ensures.proper.1 h) ∙ c.if-not-branch.true in cc)))

pub loop-j-preserved : goal.loop-j-preserved
loop-j-preserved c =
    let start = c.args.cert.now in
    let now = c.loop-j.cert in
    let next = c.compare_pair.new.cert in
    let old = saturation_of start.cert in
    let same = covered_same start now c.requires.comparable.whole c.loop-j.invariant.kept in
    let j = get_or c.args.partners.now c.loop-j.j-index 0 in
    record {
      kept = covered_trans start now next c.loop-j.invariant.kept c.compare_pair.ensures.kept;
      whole = c.in_ok-compare_pair.ensures.whole;
      counted = c.compare_pair.ensures.counted;
      among = due_more old c.args.i (IsProperPair old) (of_proper old) c.args.partners.now c.loop-j.j-index c.loop-j.invariant.among.among j (omega (arith, c.loop-j-test.true)) (item_is c.args.partners.now c.loop-j.j-index (omega (arith, c.loop-j-test.true)))
          (AreCompared (covered_of start) c.args.progress.now) (AreCompared (covered_of start) c.loop-j.progress) (AreCompared (covered_of start) c.compare_pair.new.progress) c.loop-j.invariant.among.due
          (subst (λ (x : format.Covered). IsProperPair x.saturation (suc c.args.i) (suc j)) same (c.in_ok-compare_pair.ensures.proper.0 c.if-not-branch.false))
          (subst (λ (x : format.Covered). GivesPair x.saturation (suc c.args.i) (suc j) (AreCompared x c.loop-j.progress) (AreCompared x c.compare_pair.new.progress)) same (c.in_ok-compare_pair.ensures.gives c.if-not-branch.false));
    }

pub returns-clause-first : goal.returns-clause-first
returns-clause-first c =
    let old = saturation_of c.args.cert.now.cert in
    among_all old c.args.i (IsProperPair old) (of_proper old) c.args.partners.now c.loop-j.j-index c.loop-j.invariant.among.among (omega (arith, c.loop-j-test.false))

pub returns-clause-gives : goal.returns-clause-gives
returns-clause-gives c e =
    let start = c.args.cert.now in
    let old = saturation_of start.cert in
    due_ends old c.args.i (IsProperPair old) (of_proper old) c.args.partners.now c.loop-j.j-index c.loop-j.invariant.among.among (omega (arith, c.loop-j-test.false)) (AreCompared (covered_of start) c.args.progress.now)
    (AreCompared (covered_of start) c.loop-j.progress) c.loop-j.invariant.among.due
