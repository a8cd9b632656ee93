use Rattle.std.proofs.Common.{◌≡◌, ◌∙◌, ◌+◌, suc, sym, subst, add-one, arith, below_more, true, false}
use Rattle.cert_format.specs.Certificate as format
use Rattle.cert_format.specs.Validity.{IsShownInput}
use Rattle.cert_values.specs.Values.{covered_of}
use Rattle.cert_values.proofs.Kept.{covered_same}
use Rattle.cert_check.proofs.CoverGrowth.{comparable_kept, covered_itself, covered_trans}
use Rattle.cert_check.proofs.ShownLaws.{first_unshown, none_unshown}
use Rattle.cert_check.proofs.shown.wrong_shown.Goals as goal

pub loop-i-init : goal.loop-i-init
loop-i-init c = record { kept = covered_itself c.args.cert.now; whole = c.requires.comparable.whole; before = λ k less. absurd (omega arith) }

pub is_shown-requires-clause-comparable : goal.is_shown-requires-clause-comparable
is_shown-requires-clause-comparable c = comparable_kept c.args.cert.now c.loop-i.cert c.requires.comparable c.loop-i.invariant.kept c.loop-i.invariant.whole

pub returns-then-not-branch-clause-first : goal.returns-then-not-branch-clause-first
returns-then-not-branch-clause-first c =
    let same = covered_same c.args.cert.now c.loop-i.cert c.requires.comparable.whole c.loop-i.invariant.kept in
    rw add-one (record {
      applies = λ h. let t : true ≡ false = sym (c.in_ok-is_shown.ensures.shown.1 (subst (λ (x : format.Covered). IsShownInput x (c.loop-i.i + 1)) (sym same) (rw add-one h))) ∙ c.if-not-branch.true in cc;
      before = first_unshown c.args.cert.now c.loop-i.i c.loop-i.invariant.before;
    })

pub loop-i-preserved : goal.loop-i-preserved
loop-i-preserved c =
    let start = c.args.cert.now in
    let same = covered_same start c.loop-i.cert c.requires.comparable.whole c.loop-i.invariant.kept in
    let here : IsShownInput (covered_of start) (c.loop-i.i + 1) = subst (λ (x : format.Covered). IsShownInput x (c.loop-i.i + 1)) same (c.in_ok-is_shown.ensures.shown.0 c.if-not-branch.false) in
    let e : c.loop-i.i + 1 ≡ suc c.loop-i.i = omega arith in
    record {
      kept = covered_trans start c.loop-i.cert c.is_shown.new.cert c.loop-i.invariant.kept c.is_shown.ensures.kept;
      whole = c.in_ok-is_shown.ensures.whole;
      before = below_more (λ k. IsShownInput (covered_of start) (suc k)) c.loop-i.i c.loop-i.invariant.before (subst (IsShownInput (covered_of start)) e here);
    }

pub returns-clause-first : goal.returns-clause-first
returns-clause-first c =
    let cert = c.args.cert.now in
    let past = c.loop-i-test.false in
    let top = c.max-i-end.ensures in
    none_unshown cert c.requires.comparable.base c.loop-i.i (omega (arith, past, top, c.stated_count.ensures)) (omega (arith, past, top, c.len.ensures)) c.loop-i.invariant.before
