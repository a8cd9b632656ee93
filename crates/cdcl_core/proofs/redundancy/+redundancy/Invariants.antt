use Rattle.std.proofs.Common.{◌≡◌, ◌+◌, ◌*◌}
use Rattle.cdcl_core.proofs.redundancy.+redundancy.Given as goal

abbrev pub decreases-follows : goal.decreases-follows
decreases-follows l = 2 * l.depth

abbrev pub decreases-all_follow : goal.decreases-all_follow
decreases-all_follow l = 2 * l.depth + 1

abbrev pub invariant-all_follow-loop-packed : goal.invariant-all_follow-loop-packed
invariant-all_follow-loop-packed l = l.seen ≡ l.initial.seen
