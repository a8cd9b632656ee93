use Rattle.std.proofs.Common.{ℕ, ◌<◌, ◌≤◌}
use Rattle.instgen_run.specs.Solves.{IsTrueEntry}
use Rattle.instgen_run.proofs.ask.are_true_after.Given as goal

abbrev pub invariant-loop-k : goal.invariant-loop-k
invariant-loop-k l = (i : ℕ) → l.count ≤ i → i < l.k → IsTrueEntry l.literals l.v i
