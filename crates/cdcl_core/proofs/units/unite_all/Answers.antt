use Rattle.std.proofs.Common.{arith}
use Rattle.cdcl_core.proofs.UnitLaws.{more_of, more_both}
use Rattle.cdcl_core.proofs.units.unite_all.Goals as goal

pub unite-requires : goal.unite-requires
unite-requires c = more_of c.args.trail.now.trail c.args.log.now c.loop-left.log c.loop-left.invariant.more c.requires

pub loop-left-preserved : goal.loop-left-preserved
loop-left-preserved c =
    let t = c.args.trail.now.trail in
    let v = c.loop-left.invariant in
    record { within = omega (arith, v.within); more = more_both t.atoms c.args.log.now c.loop-left.log c.unite.new.log v.more c.in_ok-unite.ensures.more }
