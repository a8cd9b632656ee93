use Rattle.std.proofs.Common.{◌≡◌, take}
use Rattle.cert_check.proofs.steps.numbered_clause.Given as goal

abbrev pub invariant-loop-l : goal.invariant-loop-l
invariant-loop-l l = l.literals ≡ take l.l-index l.l-items
