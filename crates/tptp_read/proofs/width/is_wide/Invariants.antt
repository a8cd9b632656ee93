use Rattle.std.proofs.Common.{◌≡◌, false, take}
use Rattle.std.specs.List.{list_any}
use Rattle.inst_logic.specs.LiteralView.{literal}
use Rattle.tptp_read.specs.Gathered.{literal_wide}
use Rattle.tptp_read.proofs.width.is_wide.Given as goal

abbrev pub invariant-loop-l : goal.invariant-loop-l
invariant-loop-l l = list_any (λ x. literal_wide (literal x)) (take l.l-index l.l-items) ≡ false
