use Rattle.std.proofs.Common.{◌≡◌, ◌++◌, false, drop}
use Rattle.tptp_read.specs.Meaning.{unquoted}
use Rattle.tptp_read.proofs.words.unquoted_of.Given as goal

abbrev pub invariant-loop-b : goal.invariant-loop-b
invariant-loop-b l = l.out.items ++ unquoted l.escaped (drop l.b-index l.text) ≡ unquoted false l.text
