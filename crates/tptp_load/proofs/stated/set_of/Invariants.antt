use Rattle.std.proofs.Common.{take}
use Rattle.tptp_load.specs.Selecting.{HasSame}
use Rattle.tptp_load.proofs.stated.set_of.Given as goal

abbrev pub invariant-loop-name : goal.invariant-loop-name
invariant-loop-name l = HasSame l.set.keys (take l.name-index l.name-items)
