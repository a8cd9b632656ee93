use Rattle.std.proofs.Common.{◌≡◌, take}
use Rattle.cert_check.proofs.steps.numbered_clauses.Given as goal

abbrev pub invariant-loop-c : goal.invariant-loop-c
invariant-loop-c l = l.lists ≡ take l.c-index l.c-items
