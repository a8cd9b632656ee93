use Rattle.std.proofs.Common.{◌≡◌, ◌+◌, ◌-◌, ◌<◌, ◌≤◌, take, drop}
use Rattle.std.specs.Char.{is_ascii_digit}
use Rattle.cert_format.specs.Digits.{value}
use Rattle.cert_format.specs.Runs.{run}
use Rattle.cert_items.proofs.Digits.{tens}
use Rattle.cert_items.proofs.number.first_digits.Given as goal

abbrev pub invariant-loop-len : goal.invariant-loop-len
invariant-loop-len l = record {
  in_range : l.len ≤ l.most;
  total : l.len + run is_ascii_digit (drop l.len l.bytes) ≡ run is_ascii_digit l.bytes;
  value_is : l.n ≡ value 0 (take l.len l.bytes);
  small : l.n < tens l.len;
}

abbrev pub decreases-loop-len : goal.decreases-loop-len
decreases-loop-len l = l.most - l.len
