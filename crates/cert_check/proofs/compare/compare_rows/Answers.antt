use Rattle.std.proofs.Common.{ℕ, suc, [], sym, subst, add-one, arith, below_more}
use Rattle.std.proofs.lemmas.List.{length-map}
use Rattle.cert_format.specs.Certificate as format
use Rattle.cert_format.specs.Validity.{IsProperPair}
use Rattle.cert_values.specs.Values.{covered_of, saturation_of, entry_of}
use Rattle.cert_values.proofs.Kept.{covered_same}
use Rattle.cert_index.specs.Chains.{AreMeetings}
use Rattle.cert_check.specs.DueSteps.{AreCompared, GivesRow}
use Rattle.cert_check.specs.Firsts.{IsFirstWrong}
use Rattle.cert_check.proofs.Bases.{none_wrong, some_wrong}
use Rattle.cert_check.proofs.CoverGrowth.{comparable_kept, covered_itself, covered_trans}
use Rattle.cert_check.proofs.DueLaws.{all_seen, none_compared, none_seen, row_more}
use Rattle.cert_index.proofs.PlaceLaws.{no_place}
use Rattle.cert_check.proofs.PairScans.{first_pair, all_pairs, of_proper}
use Rattle.cert_check.proofs.compare.compare_rows.Goals as goal

pub loop-i-init : goal.loop-i-init
loop-i-init c =
    let cert = c.args.cert.now in
    record {
      kept = covered_itself cert;
      whole = c.requires.comparable.whole;
      counted = let e = c.requires.start.0 in omega (arith, e);
      before = λ k less. absurd (omega arith);
      due = ([], none_seen (saturation_of cert.cert), none_compared (covered_of cert) c.args.progress.now c.requires.start.0 c.requires.start.1);
    }

pub compare_row-requires-clause-comparable : goal.compare_row-requires-clause-comparable
compare_row-requires-clause-comparable c = comparable_kept c.args.cert.now c.loop-i.cert c.requires.comparable c.loop-i.invariant.kept c.loop-i.invariant.whole

pub compare_row-requires-clause-meetings : goal.compare_row-requires-clause-meetings
compare_row-requires-clause-meetings c =
    subst (λ (x : format.Covered). AreMeetings x.saturation c.args.meetings.now) (sym (covered_same c.args.cert.now c.loop-i.cert c.requires.comparable.whole c.loop-i.invariant.kept)) c.requires.meetings

pub returns-in-Some-clause-first : goal.returns-in-Some-clause-first
returns-in-Some-clause-first c =
    let start = c.args.cert.now in
    let old = saturation_of start.cert in
    let same = covered_same start c.loop-i.cert c.requires.comparable.whole c.loop-i.invariant.kept in
    let wrong = subst (λ (x : format.Covered). IsFirstWrong (IsProperPair x.saturation (suc c.loop-i.i)) c.in-Some.right) same (some_wrong _ c.in_ok-right.field-0 c.in-Some.right c.in_ok-right.ensures.first c.in-Some.is) in
    rw add-one (first_pair old (IsProperPair old) (of_proper old) c.loop-i.i c.loop-i.invariant.before c.in-Some.right wrong)

pub loop-i-preserved : goal.loop-i-preserved
loop-i-preserved c =
    let start = c.args.cert.now in
    let now = c.loop-i.cert in
    let next = c.compare_row.new.cert in
    let old = saturation_of start.cert in
    let same = covered_same start now c.requires.comparable.whole c.loop-i.invariant.kept in
    record {
      kept = covered_trans start now next c.loop-i.invariant.kept c.compare_row.ensures.kept;
      whole = c.in_ok-right.ensures.whole;
      counted = c.compare_row.ensures.counted;
      before = below_more (λ k. (r : ℕ) → IsProperPair old (suc k) r) c.loop-i.i c.loop-i.invariant.before
          (subst (λ (x : format.Covered). (r : ℕ) → IsProperPair x.saturation (suc c.loop-i.i) r) same (none_wrong _ c.in_ok-right.field-0 c.in_ok-right.ensures.first c.in_default.not-Some));
      due = row_more old c.loop-i.i (AreCompared (covered_of start) c.loop-i.progress) (AreCompared (covered_of start) c.compare_row.new.progress) c.loop-i.invariant.due
          (subst (λ (x : format.Covered). GivesRow x.saturation c.loop-i.i (AreCompared x c.loop-i.progress) (AreCompared x c.compare_row.new.progress)) same (c.in_ok-right.ensures.gives (no_place c.in_ok-right.field-0 c.in_default.not-Some)));
    }

pub returns-clause-first : goal.returns-clause-first
returns-clause-first c =
    let start = c.args.cert.now.cert in
    let old = saturation_of start in
    all_pairs old (IsProperPair old) (of_proper old) c.loop-i.i c.loop-i.invariant.before (omega (arith, length-map start.base.members (entry_of start.base.bank)))

pub returns-clause-compared : goal.returns-clause-compared
returns-clause-compared c e =
    let start = c.args.cert.now.cert in
    let (ds, seen, compared) = c.loop-i.invariant.due in
    (ds, all_seen (saturation_of start) c.loop-i.i (omega (arith, length-map start.base.members (entry_of start.base.bank))) ds seen, compared)
