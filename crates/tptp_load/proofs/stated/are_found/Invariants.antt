use Rattle.std.proofs.Common.{◌≡◌, drop}
use Rattle.tptp_load.specs.Selecting.{first_outside}
use Rattle.tptp_load.proofs.stated.are_found.Given as goal

abbrev pub invariant-loop-name : goal.invariant-loop-name
invariant-loop-name l = first_outside l.set.keys l.name-items ≡ first_outside l.set.keys (drop l.name-index l.name-items)
