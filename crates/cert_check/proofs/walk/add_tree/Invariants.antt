use Rattle.std.specs.Prelude.{reverse}
use Rattle.term_bank.specs.Forest.{tree_at}
use Rattle.cert_check.specs.SymbolSteps.{AreClosed, Leads, steps_size, with_symbols}
use Rattle.cert_check.proofs.walk.add_tree.Given as goal

abbrev pub invariant-loop-step : goal.invariant-loop-step
invariant-loop-step l = record {
  leads : Leads l.bank (reverse l.steps.items) l.found.keys (with_symbols l.fn.found.keys (tree_at l.bank l.fn.id));
  closed : AreClosed l.bank l.found.keys l.closed.keys;
}

abbrev pub decreases-loop-step : goal.decreases-loop-step
decreases-loop-step l = steps_size l.bank (reverse l.steps.items)
