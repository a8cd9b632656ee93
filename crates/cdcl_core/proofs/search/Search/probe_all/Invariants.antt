use Rattle.std.proofs.Common.{[]}
use Rattle.cdcl_core.specs.Search.{IsSearch, IsSameProblem}
use Rattle.cdcl_core.proofs.search.Search.probe_all.Given as goal

abbrev pub invariant-loop : goal.invariant-loop
invariant-loop l = record {
  search : IsSearch [] l.self;
  same : IsSameProblem l.fn.self l.self;
}
