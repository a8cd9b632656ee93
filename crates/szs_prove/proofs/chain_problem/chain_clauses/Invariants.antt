use Rattle.std.proofs.Common.{◌≡◌, ◌-◌}
use Rattle.szs_prove.specs.Chains.{edge_clauses}
use Rattle.szs_prove.proofs.chain_problem.chain_clauses.Given as goal

abbrev pub invariant-loop-i : goal.invariant-loop-i
invariant-loop-i l = l.clauses.items ≡ edge_clauses (l.i - 1)
