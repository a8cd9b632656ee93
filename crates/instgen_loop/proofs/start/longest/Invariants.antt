use Rattle.std.proofs.Common.{◌≤◌, ℕ, List, All, length, take}
use Rattle.inst_logic.specs.declared.signed.Signed.{Signed}
use Rattle.instgen_loop.proofs.start.longest.Given as goal

abbrev pub invariant-loop-i : goal.invariant-loop-i
invariant-loop-i l = record {
  least : l.least ≤ l.longest;
  each : All (λ (c : List (Signed ℕ)). length c ≤ l.longest) (take l.i l.clauses);
}
