use Rattle.std.proofs.Common.{All, take}
use Rattle.instgen_run.specs.Clauses.{Item}
use Rattle.instgen_run.specs.Origins.{IsNoPart}
use Rattle.instgen_loop.proofs.derived.has_part.Given as goal

abbrev pub invariant-loop-i : goal.invariant-loop-i
invariant-loop-i l = All (λ (e : Item). IsNoPart e.1) (take l.i l.clauses.entries)
