use Rattle.std.proofs.Common.{◌≡◌, ◌+◌, ◌-◌, ◌≤◌, false, length, drop}
use Rattle.std.specs.Option.{option_map}
use Rattle.cert_format.specs.Names.{closing}
use Rattle.cert_items.proofs.name.closing.Given as goal

abbrev pub invariant-loop-n : goal.invariant-loop-n
invariant-loop-n l = record { in_range : l.n ≤ length l.bytes; total : option_map (λ k. l.n + k) (closing l.escaped (drop l.n l.bytes)) ≡ closing false l.bytes }

abbrev pub decreases-loop-n : goal.decreases-loop-n
decreases-loop-n l = length l.bytes - l.n
