use Rattle.std.proofs.Common.{◌≡◌, ◌++◌, false, drop}
use Rattle.cert_format.specs.Names.{unquoted}
use Rattle.cert_items.proofs.symbol.content.Given as goal

abbrev pub invariant-loop-byte : goal.invariant-loop-byte
invariant-loop-byte l = l.text.items ++ unquoted l.escaped (drop l.byte-index l.bytes) ≡ unquoted false l.bytes
