use Rattle.std.proofs.Common.{sym}
use Rattle.cdcl_trail.proofs.ScanLaws.{none_value}
use Rattle.worked_solvers.proofs.trails.decide.Goals as goal

pub decide-requires-clause-unset : goal.decide-requires-clause-unset
decide-requires-clause-unset c = none_value c.args.trail.now.trail.entries c.args.l (sym c.in-None.ensures)
