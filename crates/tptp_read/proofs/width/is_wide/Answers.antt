use Rattle.std.proofs.Common.{◌∙◌, sym, ap, arith}
use Rattle.std.specs.List.{list_any}
use Rattle.inst_logic.specs.LiteralView.{literal}
use Rattle.inst_logic.proofs.Sums.{list_any_none}
use Rattle.tptp_read.specs.Gathered.{literal_wide}
use Rattle.tptp_read.proofs.width.is_wide.Goals as goal

pub returns : goal.returns
returns c = sym (list_any_none literal_wide literal c.as_slice-l-items.result.now c.loop-l.l-index (omega arith) c.loop-l.invariant) ∙ ap (list_any literal_wide) c.as_slice-l-items.ensures
