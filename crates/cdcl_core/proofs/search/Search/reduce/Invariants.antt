use Rattle.cdcl_core.specs.Search.{IsSameButClauses}
use Rattle.cdcl_core.proofs.search.Search.reduce.Given as goal

abbrev pub invariant-loop : goal.invariant-loop
invariant-loop l = IsSameButClauses l.fn.self l.self
