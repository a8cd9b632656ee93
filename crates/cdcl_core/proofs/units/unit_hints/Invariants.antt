use Rattle.std.proofs.Common.{take}
use Rattle.cdcl_core.proofs.UnitLaws.{Leads}
use Rattle.cdcl_core.proofs.units.unit_hints.Given as goal

abbrev pub invariant-loop-packed : goal.invariant-loop-packed
invariant-loop-packed l = Leads l.log l.trail.trail.entries l.lit (take l.packed-index l.clause) l.hints.items
