use Rattle.std.proofs.Common.{take}
use Rattle.std.specs.Prelude.{All}
use Rattle.prop_logic.specs.Search.{HasRest}
use Rattle.prop_logic.proofs.search.find_false.Given as goal

abbrev pub invariant-loop-place : goal.invariant-loop-place
invariant-loop-place l = All (HasRest l.entries) (take l.place l.clauses)
