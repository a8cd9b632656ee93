use Rattle.std.proofs.Common.{◌≡◌, [], map, false}
use Rattle.std.specs.Prelude.{IsTrue}
use Rattle.std.specs.List.{list_all}
use Rattle.term_bank.specs.Forest.{tree_at, AreIds, Extends, AreFormed, is_formed}
use Rattle.term_bank.specs.Steps.{all_done, steps_size}
use Rattle.term_bank.proofs.walk.run_steps.Given as goal

abbrev pub invariant-loop-step : goal.invariant-loop-step
invariant-loop-step l = record {
  done : all_done l.steps.items (map (tree_at l.bank) l.ids.items) ≡ all_done l.fn.steps.items [];
  within : AreIds l.bank l.ids.items;
  extends : Extends l.fn.bank l.bank;
  formed : AreFormed l.fn.bank → IsTrue (list_all is_formed (all_done l.fn.steps.items [])) → AreFormed l.bank;
  unspent : l.bank.spent ≡ false;
}

abbrev pub decreases-loop-step : goal.decreases-loop-step
decreases-loop-step l = steps_size l.steps.items
