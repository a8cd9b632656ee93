use Rattle.std.proofs.Common.{◌≡◌, ◌+◌, ◌*◌, ◌≤◌, [], length, sym, subst, arith}
use Rattle.std.specs.List.Sorted.{IsStrictlyIncreasing}
use Rattle.prop_logic.specs.Valuation.{AreChangesBelow}
use Rattle.prop_logic.proofs.ChangesLaws.{all_changes, none_changed}
use Rattle.prop_logic.proofs.differences.changes.Goals as goal

pub loop-place-init : goal.loop-place-init
loop-place-init c =
    let first = c.first_difference-place in
    let none : AreChangesBelow 0 c.args.old.now c.args.new.now [] = λ k. (λ x. absurd (omega (arith, x.1)), λ x. absurd (omega (arith, x.0))) in
    record {
      before = subst (AreChangesBelow (64 * first.result) c.args.old.now c.args.new.now) (sym c.new-changes.ensures.items) (none_changed c.args.old.now c.args.new.now [] 0 (64 * first.result) (omega arith) first.ensures.same none);
      rising = subst IsStrictlyIncreasing (sym c.new-changes.ensures.items) (λ k h. absurd (omega (arith, h)));
    }

pub loop-place-preserved : goal.loop-place-preserved
loop-place-preserved c =
    let place = c.loop-place.place in
    let next = c.first_difference-place-in-loop-place in
    let e : 64 * place + 64 ≡ 64 * (place + 1) = omega arith in
    let here = subst (λ n. AreChangesBelow n c.args.old.now c.args.new.now c.add_word.new.changes.items) e c.in_ok-add_word.ensures.before in
    record {
      before = none_changed c.args.old.now c.args.new.now c.add_word.new.changes.items (64 * (place + 1)) (64 * next.result) (omega (arith, next.ensures.after)) next.ensures.same here;
      rising = c.in_ok-add_word.ensures.rising;
    }

pub returns-clause-exact : goal.returns-clause-exact
returns-clause-exact c =
    let low_old : length c.args.old.now ≤ 64 * c.loop-place.place = omega (arith, c.word_count.ensures.enough, c.max-count.ensures, c.loop-place-test.false) in
    let low_new : length c.args.new.now ≤ 64 * c.loop-place.place = omega (arith, c.word_count-2.ensures.enough, c.max-count.ensures, c.loop-place-test.false) in
    all_changes c.args.old.now c.args.new.now c.loop-place.changes.items (64 * c.loop-place.place) low_old low_new c.loop-place.invariant.before
