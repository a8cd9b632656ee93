use Rattle.std.proofs.Common.{◌≡◌, ◌++◌, length}
use Rattle.instgen_select.specs.Passives.{ready_of, fresh_of}
use Rattle.instgen_select.proofs.passive.admit_all.Given as goal

abbrev pub invariant-loop-arrival : goal.invariant-loop-arrival
invariant-loop-arrival l = ready_of l.ready ++ fresh_of l.fresh.items ≡ ready_of l.fn.ready ++ fresh_of l.fn.fresh.items

abbrev pub decreases-loop-arrival : goal.decreases-loop-arrival
decreases-loop-arrival l = length l.fresh.items
