use Rattle.std.proofs.Common.{◌≡◌, ◌+◌, ◌-◌, ◌<◌, ◌≤◌, ◌^◌, length, take, drop}
use Rattle.std.specs.Char.{is_ascii_digit}
use Rattle.cert_format.specs.Digits.{value}
use Rattle.cert_format.specs.Runs.{run}
use Rattle.cert_items.proofs.number.digits_value.Given as goal

abbrev pub invariant-loop-len : goal.invariant-loop-len
invariant-loop-len l = record {
  in_range : l.len ≤ length l.bytes;
  total : l.len + run is_ascii_digit (drop l.len l.bytes) ≡ run is_ascii_digit l.bytes;
  value_is : l.n ≡ value 0 (take l.len l.bytes);
  fits : l.n < 2 ^ 64;
}

abbrev pub decreases-loop-len : goal.decreases-loop-len
decreases-loop-len l = length l.bytes - l.len
