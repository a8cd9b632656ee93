use Rattle.std.proofs.Common.{◌≡◌, take}
use Rattle.cdcl_trail.proofs.arena.Arena.closed_up.Given as goal

abbrev pub invariant-loop-i : goal.invariant-loop-i
invariant-loop-i l = l.copy ≡ take l.i l.self
