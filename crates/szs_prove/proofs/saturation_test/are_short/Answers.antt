use Rattle.std.proofs.Common.{arith}
use Rattle.szs_prove.proofs.LightMembers.{one_more_short, number_of_selected, none_selected}
use Rattle.szs_prove.proofs.saturation_test.are_short.Goals as goal

pub loop-i-init : goal.loop-i-init
loop-i-init c n m low s = none_selected c.args.cert.now n m low s

pub loop-i-preserved : goal.loop-i-preserved
loop-i-preserved c n m most s = one_more_short c.args.cert.now c.loop-i.i c.loop-i.invariant c.is_short.ensures n m most s

pub returns : goal.returns
returns c n m s =
    let (some, most) = number_of_selected c.args.cert.now n m s in
    c.loop-i.invariant n m (omega (arith, most, c.len-i-end.ensures)) s
