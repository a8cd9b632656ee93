use Rattle.std.proofs.Common.{◌≡◌, map}
use Rattle.inst_logic.specs.Clauses.{canonical_form}
use Rattle.tptp_load.specs.Problems.{giving}
use Rattle.tptp_load.proofs.problem.problem_of.Given as goal

abbrev pub invariant-loop-stated : goal.invariant-loop-stated
invariant-loop-stated l =
    (l.problem.clauses ≡ map (λ s. canonical_form s.clause) (giving l.yielded)) × (l.problem.names ≡ map (λ s. s.name) (giving l.yielded))
