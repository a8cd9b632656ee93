use Rattle.std.proofs.Common.{◌≡◌, length, take}
use Rattle.cdcl_core.specs.Analysis.{MarksToo}
use Rattle.cdcl_core.proofs.analysis.mark_all.Given as goal

abbrev pub invariant-loop-packed : goal.invariant-loop-packed
invariant-loop-packed l = record {
  size : length l.seen ≡ l.trail.trail.atoms;
  marked : MarksToo l.trail.trail (take l.packed-index l.clause) l.initial.seen l.seen l.initial.waiting l.waiting;
}
