use Rattle.std.proofs.Common.{◌≡◌, ◌+◌, ◌*◌, List, ◌++◌, map, drop}
use Rattle.inst_logic.specs.Tree.{Tree, of_list}
use Rattle.inst_logic.specs.View.{tree}
use Rattle.inst_logic.specs.Measure.{trees_size}
use Rattle.term_bank.specs.Steps.{all_done, steps_size}
use Rattle.term_bank.proofs.walk.push_terms.Given as goal

abbrev pub invariant-loop-i : goal.invariant-loop-i
invariant-loop-i l = record {
  done : (ts : List Tree) → all_done l.steps.items ts ≡ all_done l.initial.steps.items (ts ++ map tree (drop l.i l.terms));
  size : steps_size l.steps.items ≡ steps_size l.initial.steps.items + 2 * trees_size (of_list (map tree (drop l.i l.terms)));
}
