use Rattle.std.proofs.Common.{◌≡◌, length}
use Rattle.szs_prove.proofs.citations.mark_hints.Given as goal

abbrev pub invariant-loop-hint : goal.invariant-loop-hint
invariant-loop-hint l = length l.marks ≡ length l.initial.marks
