use Rattle.std.proofs.Common.{◌≡◌, length}
use Rattle.cdcl_core.proofs.reasons.mark_reasons.Given as goal

abbrev pub invariant-loop-lit : goal.invariant-loop-lit
invariant-loop-lit l = length l.seen ≡ length l.initial.seen
