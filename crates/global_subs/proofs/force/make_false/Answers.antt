use Rattle.std.proofs.Common.{◌≡◌, ℕ, not, sym, subst, ◌∙◌}
use Rattle.inst_logic.specs.declared.signed.Signed.{Signed}
use Rattle.inst_logic.proofs.Booleans.{not_not}
use Rattle.prop_logic.specs.Valuation.{value_at}
use Rattle.global_subs.proofs.force.make_false.Goals as goal

pub force-requires-clause-untrue : goal.force-requires-clause-untrue
force-requires-clause-untrue c =
    subst (λ (m : Signed ℕ). value_at c.args.witnesses.now.values m.atom ≡ not m.positive) (sym c.complement-other.ensures) (c.is_true.ensures.yes c.if-not-is_true.false ∙ sym (not_not c.args.l.positive))
