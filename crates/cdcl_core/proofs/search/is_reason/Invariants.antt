use Rattle.std.proofs.Common.{◌≢◌, take, Some}
use Rattle.std.specs.Prelude.{All}
use Rattle.cdcl_trail.specs.Trail.{reason_of}
use Rattle.cdcl_core.proofs.search.is_reason.Given as goal

abbrev pub invariant-loop-i : goal.invariant-loop-i
invariant-loop-i l = All (λ x. reason_of l.trail.trail.entries x.atom ≢ Some l.fn.number) (take l.i l.clause)
