use Rattle.std.proofs.Common.{◌+◌, ◌-◌, ◌*◌, ◌^◌}
use Rattle.cdcl_core.specs.Search.{IsSearch, IsSameProblem, weight}
use Rattle.cdcl_core.proofs.search.Search.run.Given as goal

abbrev pub invariant-loop-self : goal.invariant-loop-self
invariant-loop-self l = record {
  search : IsSearch l.assumptions l.self;
  same : IsSameProblem l.fn.self l.self;
}

abbrev pub decreases-loop-self : goal.decreases-loop-self
decreases-loop-self l = l.restarts.left * ((l.self.trail.trail.atoms + 1) ^ (l.self.trail.trail.atoms + 1) + 1) + ((l.self.trail.trail.atoms + 1) ^ (l.self.trail.trail.atoms + 1) - weight l.self.trail.trail.atoms l.self.trail.trail.entries)
