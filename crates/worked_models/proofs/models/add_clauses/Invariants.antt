use Rattle.std.proofs.Common.{◌≡◌, length}
use Rattle.worked_models.proofs.models.add_clauses.Given as goal

abbrev pub invariant-loop-statement : goal.invariant-loop-statement
invariant-loop-statement l = length l.p.names ≡ length l.p.clauses
