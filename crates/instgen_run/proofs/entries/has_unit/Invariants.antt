use Rattle.std.proofs.Common.{All, take}
use Rattle.instgen_run.specs.Clauses.{IsNoUnit}
use Rattle.instgen_run.proofs.entries.has_unit.Given as goal

abbrev pub invariant-loop-l : goal.invariant-loop-l
invariant-loop-l g l = All (IsNoUnit l.entries.bank l.entries.clauses.entries) (take l.l-index l.d)
