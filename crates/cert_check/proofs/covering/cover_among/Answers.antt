use Rattle.std.proofs.Common.{◌≡◌, ◌∙◌, ◌<◌, length, get_or, true, false, sym, suc, subst, add-one, arith}
use Rattle.std.proofs.lemmas.List.{length-map}
use Rattle.cert_format.specs.Certificate as format
use Rattle.cert_format.specs.Validity.{IsRightPair}
use Rattle.cert_values.specs.Values.{covered_of, saturation_of, entry_of}
use Rattle.cert_check.specs.DueSteps.{AreNamed, GivesPair}
use Rattle.cert_check.proofs.CoverGrowth.{grows_itself, grows_trans}
use Rattle.cert_check.proofs.ReadyLaws.{ready_kept}
use Rattle.cert_check.proofs.Saturations.{saturation_same}
use Rattle.cert_check.proofs.PairScans.{of_right}
use Rattle.cert_check.proofs.RowScans.{among_all, among_wrong, due_begins, due_ends, due_more, item_is, item_later, item_within}
use Rattle.cert_check.proofs.covering.cover_among.Goals as goal

pub loop-j-init : goal.loop-j-init
loop-j-init c =
    let cert = c.args.cert.now in
    let old = saturation_of cert.cert in
    record {
      kept = grows_itself cert;
      whole = c.requires.whole;
      among = due_begins old c.args.i (IsRightPair old) (of_right old) (omega (arith, c.requires.within, length-map cert.cert.base.members (entry_of cert.cert.base.bank))) c.args.partners.now c.requires.partners (AreNamed (covered_of cert));
    }

pub cover_pair-requires-clause-whole : goal.cover_pair-requires-clause-whole
cover_pair-requires-clause-whole c = c.loop-j.invariant.whole

pub cover_pair-requires-clause-ready : goal.cover_pair-requires-clause-ready
cover_pair-requires-clause-ready c = ready_kept c.args.cert.now.cert c.loop-j.cert.cert c.args.lookup.now c.requires.ready c.loop-j.invariant.kept.cert c.loop-j.invariant.whole.cert

pub cover_pair-requires-clause-left : goal.cover_pair-requires-clause-left
cover_pair-requires-clause-left c =
    let old = saturation_of c.args.cert.now.cert in
    item_later old c.args.i (IsRightPair old) (of_right old) c.args.partners.now c.loop-j.j-index c.loop-j.invariant.among.among (get_or c.args.partners.now c.loop-j.j-index 0) (omega (arith, c.loop-j-test.true)) (item_is c.args.partners.now c.loop-j.j-index (omega (arith, c.loop-j-test.true)))

pub cover_pair-requires-clause-right : goal.cover_pair-requires-clause-right
cover_pair-requires-clause-right c =
    let old = saturation_of c.args.cert.now.cert in
    let now = c.loop-j.cert.cert in
    let w = item_within old c.args.i (IsRightPair old) (of_right old) c.args.partners.now c.loop-j.j-index c.loop-j.invariant.among.among (get_or c.args.partners.now c.loop-j.j-index 0) (omega (arith, c.loop-j-test.true)) (item_is c.args.partners.now c.loop-j.j-index (omega (arith, c.loop-j-test.true))) in
    let e = saturation_same c.args.cert.now.cert now c.requires.whole.cert c.loop-j.invariant.kept.cert in
    let here = subst (λ (x : format.Saturation). get_or c.args.partners.now c.loop-j.j-index 0 < length x.base.members) (sym e) w in
    omega (arith, here, length-map now.base.members (entry_of now.base.bank))

pub returns-then-not-branch-clause-first : goal.returns-then-not-branch-clause-first
returns-then-not-branch-clause-first c =
    let old = saturation_of c.args.cert.now.cert in
    let same = saturation_same c.args.cert.now.cert c.loop-j.cert.cert c.requires.whole.cert c.loop-j.invariant.kept.cert in
    rw add-one (among_wrong old c.args.i (IsRightPair old) (of_right old) c.args.partners.now c.loop-j.j-index c.loop-j.invariant.among.among (get_or c.args.partners.now c.loop-j.j-index 0) (omega (arith, c.loop-j-test.true)) (item_is c.args.partners.now c.loop-j.j-index (omega (arith, c.loop-j-test.true)))
    (subst (λ (x : format.Saturation). ¬ IsRightPair x (suc c.args.i) (suc (get_or c.args.partners.now c.loop-j.j-index 0))) same (λ h. let t : true ≡ false = sym (c.in_ok-cover_pair.ensures.right.1 h) ∙ c.if-not-branch.true in cc)))

pub loop-j-preserved : goal.loop-j-preserved
loop-j-preserved c =
    let start = c.args.cert.now in
    let now = c.loop-j.cert in
    let next = c.cover_pair.new.cert in
    let old = saturation_of start.cert in
    let same = saturation_same start.cert now.cert c.requires.whole.cert c.loop-j.invariant.kept.cert in
    let j = get_or c.args.partners.now c.loop-j.j-index 0 in
    record {
      kept = grows_trans start now next c.loop-j.invariant.kept c.cover_pair.ensures.kept;
      whole = c.in_ok-cover_pair.ensures.whole;
      among = due_more old c.args.i (IsRightPair old) (of_right old) c.args.partners.now c.loop-j.j-index c.loop-j.invariant.among.among j (omega (arith, c.loop-j-test.true)) (item_is c.args.partners.now c.loop-j.j-index (omega (arith, c.loop-j-test.true)))
          (AreNamed (covered_of start)) (AreNamed (covered_of now)) (AreNamed (covered_of next)) c.loop-j.invariant.among.due
          (subst (λ (x : format.Saturation). IsRightPair x (suc c.args.i) (suc j)) same (c.in_ok-cover_pair.ensures.right.0 c.if-not-branch.false))
          (subst (λ (x : format.Saturation). GivesPair x (suc c.args.i) (suc j) (AreNamed (covered_of now)) (AreNamed (covered_of next))) same (c.in_ok-cover_pair.ensures.gives c.if-not-branch.false));
    }

pub returns-clause-first : goal.returns-clause-first
returns-clause-first c =
    let old = saturation_of c.args.cert.now.cert in
    among_all old c.args.i (IsRightPair old) (of_right old) c.args.partners.now c.loop-j.j-index c.loop-j.invariant.among.among (omega (arith, c.loop-j-test.false))

pub returns-clause-gives : goal.returns-clause-gives
returns-clause-gives c e =
    let start = c.args.cert.now in
    let old = saturation_of start.cert in
    due_ends old c.args.i (IsRightPair old) (of_right old) c.args.partners.now c.loop-j.j-index c.loop-j.invariant.among.among (omega (arith, c.loop-j-test.false)) (AreNamed (covered_of start)) (AreNamed (covered_of c.loop-j.cert)) c.loop-j.invariant.among.due
