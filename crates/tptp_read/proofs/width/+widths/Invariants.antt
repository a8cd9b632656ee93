use Rattle.std.proofs.Common.{◌≡◌, ◌+◌, ◌*◌, false, take, map}
use Rattle.std.specs.List.{list_any}
use Rattle.inst_logic.specs.Tree.{height, heights, of_list}
use Rattle.inst_logic.specs.View.{tree}
use Rattle.tptp_read.specs.Gathered.{tree_wide}
use Rattle.tptp_read.proofs.width.+widths.Given as goal

abbrev pub decreases-term_is_wide : goal.decreases-term_is_wide
decreases-term_is_wide l = 3 * height (tree l.t.now)

abbrev pub decreases-application_is_wide : goal.decreases-application_is_wide
decreases-application_is_wide l = 3 * heights (of_list l.args.now) + 2

abbrev pub decreases-any_is_wide : goal.decreases-any_is_wide
decreases-any_is_wide l = 3 * heights (of_list (map tree l.ts.now)) + 1

abbrev pub invariant-any_is_wide-loop-t : goal.invariant-any_is_wide-loop-t
invariant-any_is_wide-loop-t l = list_any (λ t. tree_wide (tree t)) (take l.t-index l.ts) ≡ false
