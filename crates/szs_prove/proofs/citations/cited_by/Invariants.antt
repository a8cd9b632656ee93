use Rattle.std.proofs.Common.{◌≡◌, length}
use Rattle.szs_prove.proofs.citations.cited_by.Given as goal

abbrev pub invariant-loop-step : goal.invariant-loop-step
invariant-loop-step l = length l.marks.items ≡ l.count
