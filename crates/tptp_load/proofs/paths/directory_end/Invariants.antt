use Rattle.tptp_load.proofs.Directories.{EndsAt}
use Rattle.tptp_load.proofs.paths.directory_end.Given as goal

abbrev pub invariant-loop-i : goal.invariant-loop-i
invariant-loop-i l = EndsAt l.name l.i l.end
