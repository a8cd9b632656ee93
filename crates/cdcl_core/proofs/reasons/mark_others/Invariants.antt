use Rattle.std.proofs.Common.{◌≡◌, length}
use Rattle.cdcl_core.proofs.reasons.mark_others.Given as goal

abbrev pub invariant-loop-packed : goal.invariant-loop-packed
invariant-loop-packed l = length l.seen ≡ length l.initial.seen
