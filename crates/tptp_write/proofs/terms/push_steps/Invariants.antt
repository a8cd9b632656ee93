use Rattle.std.proofs.Common.{◌≡◌, ◌+◌, ◌*◌, ◌++◌, map, drop}
use Rattle.inst_logic.specs.Tree.{of_list}
use Rattle.inst_logic.specs.View.{tree}
use Rattle.inst_logic.specs.Measure.{trees_size}
use Rattle.inst_logic.specs.Printing.{more_text}
use Rattle.tptp_write.specs.Steps.{steps_text, steps_size}
use Rattle.tptp_write.proofs.terms.push_steps.Given as goal

abbrev pub invariant-loop-i : goal.invariant-loop-i
invariant-loop-i l = record {
  text : steps_text l.steps.items ≡ more_text (of_list (map tree (drop l.i l.terms))) ++ steps_text l.fn.steps.items;
  size : steps_size l.steps.items ≡ steps_size l.fn.steps.items + 2 * trees_size (of_list (map tree (drop l.i l.terms))) + 1;
}
