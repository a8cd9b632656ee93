use Rattle.std.proofs.Common.{sym, arith}
use Rattle.inst_logic.specs.View.{tree}
use Rattle.inst_logic.proofs.Sums.{list_any_none}
use Rattle.tptp_read.specs.Gathered.{tree_wide}
use Rattle.tptp_read.proofs.width.+widths.Goals as goal

pub any_is_wide-returns : goal.any_is_wide-returns
any_is_wide-returns t c = sym (list_any_none tree_wide tree c.args.ts.now c.loop-t.t-index (omega arith) c.loop-t.invariant)
