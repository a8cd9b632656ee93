use Rattle.std.proofs.Common.{ℕ, suc, [], subst, add-one, arith, below_more}
use Rattle.std.proofs.lemmas.List.{length-map}
use Rattle.cert_format.specs.Certificate as format
use Rattle.cert_format.specs.Validity.{IsRightPair}
use Rattle.cert_values.specs.Values.{covered_of, saturation_of, entry_of}
use Rattle.cert_check.specs.DueSteps.{AreNamed, GivesRow}
use Rattle.cert_check.specs.Firsts.{IsFirstWrong}
use Rattle.cert_check.proofs.Bases.{none_wrong, some_wrong}
use Rattle.cert_check.proofs.CoverGrowth.{grows_itself, grows_trans, none_named}
use Rattle.cert_check.proofs.DueLaws.{all_seen, none_seen, row_more}
use Rattle.cert_check.proofs.ReadyLaws.{ready_kept}
use Rattle.cert_index.proofs.PlaceLaws.{no_place}
use Rattle.cert_check.proofs.PairScans.{first_pair, all_pairs, of_right}
use Rattle.cert_check.proofs.Saturations.{saturation_same}
use Rattle.cert_check.proofs.covering.cover_rows.Goals as goal

pub loop-i-init : goal.loop-i-init
loop-i-init c =
    let cert = c.args.cert.now in
    record { kept = grows_itself cert; whole = c.requires.whole; before = λ k less. absurd (omega arith); due = ([], none_seen (saturation_of cert.cert), none_named cert c.requires.none) }

pub cover_row-requires-clause-whole : goal.cover_row-requires-clause-whole
cover_row-requires-clause-whole c = c.loop-i.invariant.whole

pub cover_row-requires-clause-ready : goal.cover_row-requires-clause-ready
cover_row-requires-clause-ready c = ready_kept c.args.cert.now.cert c.loop-i.cert.cert c.args.lookup.now c.requires.ready c.loop-i.invariant.kept.cert c.loop-i.invariant.whole.cert

pub returns-in-Some-clause-first : goal.returns-in-Some-clause-first
returns-in-Some-clause-first c =
    let start = c.args.cert.now in
    let old = saturation_of start.cert in
    let same = saturation_same start.cert c.loop-i.cert.cert c.requires.whole.cert c.loop-i.invariant.kept.cert in
    let wrong = subst (λ (x : format.Saturation). IsFirstWrong (IsRightPair x (suc c.loop-i.i)) c.in-Some.right) same (some_wrong _ c.in_ok-right.field-0 c.in-Some.right c.in_ok-right.ensures.first c.in-Some.is) in
    rw add-one (first_pair old (IsRightPair old) (of_right old) c.loop-i.i c.loop-i.invariant.before c.in-Some.right wrong)

pub loop-i-preserved : goal.loop-i-preserved
loop-i-preserved c =
    let start = c.args.cert.now in
    let now = c.loop-i.cert in
    let next = c.cover_row.new.cert in
    let old = saturation_of start.cert in
    let same = saturation_same start.cert now.cert c.requires.whole.cert c.loop-i.invariant.kept.cert in
    record {
      kept = grows_trans start now next c.loop-i.invariant.kept c.cover_row.ensures.kept;
      whole = c.in_ok-right.ensures.whole;
      before = below_more (λ k. (r : ℕ) → IsRightPair old (suc k) r) c.loop-i.i c.loop-i.invariant.before
          (subst (λ (x : format.Saturation). (r : ℕ) → IsRightPair x (suc c.loop-i.i) r) same (none_wrong _ c.in_ok-right.field-0 c.in_ok-right.ensures.first c.in_default.not-Some));
      due = row_more old c.loop-i.i (AreNamed (covered_of now)) (AreNamed (covered_of next)) c.loop-i.invariant.due
          (subst (λ (x : format.Saturation). GivesRow x c.loop-i.i (AreNamed (covered_of now)) (AreNamed (covered_of next))) same (c.in_ok-right.ensures.gives (no_place c.in_ok-right.field-0 c.in_default.not-Some)));
    }

pub returns-clause-first : goal.returns-clause-first
returns-clause-first c =
    let start = c.args.cert.now.cert in
    let old = saturation_of start in
    all_pairs old (IsRightPair old) (of_right old) c.loop-i.i c.loop-i.invariant.before (omega (arith, length-map start.base.members (entry_of start.base.bank)))

pub returns-clause-named : goal.returns-clause-named
returns-clause-named c e =
    let start = c.args.cert.now.cert in
    let (ds, seen, named) = c.loop-i.invariant.due in
    (ds, all_seen (saturation_of start) c.loop-i.i (omega (arith, length-map start.base.members (entry_of start.base.bank))) ds seen, named)
