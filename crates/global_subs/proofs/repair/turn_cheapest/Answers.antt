use Rattle.std.proofs.Common.{◌≡◌, ℕ, ◌<◌, length, not}
use Rattle.std.proofs.lemmas.List.Elements.{All-contains}
use Rattle.inst_logic.specs.declared.signed.Signed.{Signed}
use Rattle.prop_logic.specs.Valuation.{value_at}
use Rattle.global_subs.proofs.repair.turn_cheapest.Goals as goal

pub force-requires-clause-within : goal.force-requires-clause-within
force-requires-clause-within c = All-contains (λ (m : Signed ℕ). m.atom < length c.args.witnesses.now.values) c.args.clause.now c.in-Some.l c.requires.within c.in-Some.ensures.some

pub force-requires-clause-untrue : goal.force-requires-clause-untrue
force-requires-clause-untrue c = All-contains (λ (m : Signed ℕ). value_at c.args.witnesses.now.values m.atom ≡ not m.positive) c.args.clause.now c.in-Some.l c.requires.untrue c.in-Some.ensures.some
