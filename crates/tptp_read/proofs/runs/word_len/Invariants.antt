use Rattle.std.proofs.Common.{◌≡◌, ◌+◌, ◌-◌, ◌≤◌, length, drop}
use Rattle.tptp_read.specs.Bytes.{run, is_word_byte}
use Rattle.tptp_read.proofs.runs.word_len.Given as goal

abbrev pub invariant-loop-n : goal.invariant-loop-n
invariant-loop-n l = record { in_range : l.n ≤ length l.bytes; total : l.n + run is_word_byte (drop l.n l.bytes) ≡ run is_word_byte l.bytes }

abbrev pub decreases-loop-n : goal.decreases-loop-n
decreases-loop-n l = length l.bytes - l.n
