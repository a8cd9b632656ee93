use Rattle.std.proofs.Common.{◌≡◌, ◌++◌, drop}
use Rattle.inst_logic.specs.Printing.{escaped_all}
use Rattle.tptp_write.proofs.names.push_all_escaped.Given as goal

abbrev pub invariant-loop-byte : goal.invariant-loop-byte
invariant-loop-byte l = l.text.items ++ escaped_all (drop l.byte-index l.name) ≡ l.initial.text.items ++ escaped_all l.name
