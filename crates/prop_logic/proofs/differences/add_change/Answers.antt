use Rattle.std.proofs.Common.{◌≡◌, ◌+◌, sym, ◌∙◌, subst, arith}
use Rattle.std.specs.List.Sorted.{IsStrictlyIncreasing}
use Rattle.prop_logic.specs.Valuation.{value_at, AreChangesBelow}
use Rattle.prop_logic.proofs.ChangesLaws.{none_changed, one_changed, rising_push, same_bool, other_bool}
use Rattle.prop_logic.proofs.differences.add_change.Goals as goal

pub returns-in_ok-push-clause-before : goal.returns-in_ok-push-clause-before
returns-in_ok-push-clause-before c =
    let differ : value_at c.args.old.now c.args.atom ≡ value_at c.args.new.now c.args.atom → ⊥ = λ e. other_bool c.bit.result c.bit-2.result c.if-bit.true (c.bit.ensures ∙ e ∙ sym c.bit-2.ensures) in
    subst (AreChangesBelow (c.args.atom + 1) c.args.old.now c.args.new.now) (sym c.in_ok-push.ensures.items) (one_changed c.args.old.now c.args.new.now c.args.changes.now.items c.args.atom differ c.requires.before)

pub returns-in_ok-push-clause-rising : goal.returns-in_ok-push-clause-rising
returns-in_ok-push-clause-rising c = subst IsStrictlyIncreasing (sym c.in_ok-push.ensures.items) (rising_push c.args.old.now c.args.new.now c.args.changes.now.items c.args.atom c.requires.before c.requires.rising)

pub returns-else-bit-clause-before : goal.returns-else-bit-clause-before
returns-else-bit-clause-before c =
    let same : c.bit.result ≡ c.bit-2.result = same_bool c.bit.result c.bit-2.result c.if-bit.false in
    none_changed c.args.old.now c.args.new.now c.args.changes.now.items c.args.atom (c.args.atom + 1) (omega arith)
    (λ k h l. let e : c.args.atom ≡ k = omega (arith, h, l) in
    subst (λ j. value_at c.args.old.now j ≡ value_at c.args.new.now j) e (sym c.bit.ensures ∙ same ∙ c.bit-2.ensures)) c.requires.before
