use Rattle.std.proofs.Common.{take}
use Rattle.tptp_load.specs.Selecting.{HasSame, names_of}
use Rattle.tptp_load.proofs.stated.set_of_names.Given as goal

abbrev pub invariant-loop-s : goal.invariant-loop-s
invariant-loop-s l = HasSame l.set.keys (names_of (take l.s-index l.stated))
