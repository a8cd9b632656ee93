use Rattle.std.proofs.Common.{◌<◌, ◌≤◌, max, length, suc, add-one, arith, below_more}
use Rattle.cert_format.specs.Validity.{IsRightPlace}
use Rattle.cert_values.specs.Values.{saturation_of}
use Rattle.cert_check.proofs.Placed.{first_place, all_placed}
use Rattle.cert_check.proofs.places.wrong_place.Goals as goal

pub returns-then-not-is_placed : goal.returns-then-not-is_placed
returns-then-not-is_placed c =
    let within : c.loop-i.i < max (length c.args.cert.now.base.members) (length c.args.cert.now.places) = omega arith in
    rw add-one (first_place c.args.cert.now c.loop-i.i c.loop-i.invariant (c.is_placed.ensures.wrong c.if-not-is_placed.true within))

pub loop-i-preserved : goal.loop-i-preserved
loop-i-preserved c =
    below_more (λ k. IsRightPlace (saturation_of c.args.cert.now) (suc k)) c.loop-i.i c.loop-i.invariant (c.is_placed.ensures.right c.if-not-is_placed.false)

pub returns : goal.returns
returns c =
    let past : max (length c.args.cert.now.base.members) (length c.args.cert.now.places) ≤ c.loop-i.i = omega arith in
    all_placed c.args.cert.now c.loop-i.i c.loop-i.invariant past
