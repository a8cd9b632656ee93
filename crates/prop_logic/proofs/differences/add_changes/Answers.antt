use Rattle.std.proofs.Common.{◌≡◌, subst, arith}
use Rattle.prop_logic.specs.Valuation.{AreChangesBelow}
use Rattle.prop_logic.proofs.differences.add_changes.Goals as goal

pub returns-clause-before : goal.returns-clause-before
returns-clause-before c =
    let e : c.loop-atom.atom ≡ c.args.end = omega (arith, c.requires.order) in
    subst (λ n. AreChangesBelow n c.args.old.now c.args.new.now c.loop-atom.changes.items) e c.loop-atom.invariant.before
