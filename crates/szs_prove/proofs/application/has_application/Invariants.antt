use Rattle.std.proofs.Common.{◌≡◌, false, take}
use Rattle.std.specs.List.{list_any}
use Rattle.inst_logic.specs.View.{tree}
use Rattle.szs_prove.specs.Applications.{is_application}
use Rattle.szs_prove.proofs.application.has_application.Given as goal

abbrev pub invariant-loop-t : goal.invariant-loop-t
invariant-loop-t l = list_any (λ t. is_application (tree t)) (take l.t-index l.t-items) ≡ false
