use Rattle.std.proofs.Common.{◌≡◌, false, nat_eq, get_or}
use Rattle.std.proofs.lemmas.Bool.Decides.{nat_tests}
use Rattle.std.proofs.Common.{arith}
use Rattle.tptp_load.proofs.Directories.{ends_first, ends_here, ends_before}
use Rattle.tptp_load.proofs.paths.directory_end.Goals as goal
use Rattle.tptp_load.proofs.paths.directory_end.Goals.{then-byte-eq47, else-byte-eq47}

pub loop-i-init : goal.loop-i-init
loop-i-init c = ends_first c.args.name.now

pub loop-i-preserved : goal.loop-i-preserved
loop-i-preserved c =
    elim c.if-byte-eq47.branch [
      | then-byte-eq47 w ↦ rw w.end-is (ends_here c.args.name.now c.loop-i.i 0 c.loop-i-test.true w.if-byte-eq47.true)
      | else-byte-eq47 w ↦ rw w.end-is (let other : nat_eq 47 (get_or c.args.name.now c.loop-i.i 0) ≡ false = grind (arith, nat_tests) in ends_before c.args.name.now c.loop-i.i c.loop-i.end 0 c.loop-i-test.true other c.loop-i.invariant)
    ]
