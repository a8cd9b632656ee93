use Rattle.std.proofs.Common.{◌≡◌, false, take}
use Rattle.std.specs.List.{list_any}
use Rattle.inst_logic.specs.LiteralView.{literal}
use Rattle.szs_prove.specs.Applications.{atom_has_application}
use Rattle.szs_prove.proofs.application.applies.Given as goal

abbrev pub invariant-loop-l : goal.invariant-loop-l
invariant-loop-l l = list_any (λ x. atom_has_application (literal x).atom) (take l.l-index l.l-items) ≡ false
