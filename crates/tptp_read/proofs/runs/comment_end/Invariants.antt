use Rattle.std.proofs.Common.{◌≡◌, ◌+◌, ◌-◌, ◌≤◌, false, length, drop}
use Rattle.std.specs.Option.{option_map}
use Rattle.tptp_read.specs.Bytes.{comment_end}
use Rattle.tptp_read.proofs.runs.comment_end.Given as goal

abbrev pub invariant-loop-n : goal.invariant-loop-n
invariant-loop-n l = record { in_range : l.n ≤ length l.bytes; total : option_map (λ k. l.n + k) (comment_end l.star (drop l.n l.bytes)) ≡ comment_end false l.bytes }

abbrev pub decreases-loop-n : goal.decreases-loop-n
decreases-loop-n l = length l.bytes - l.n
