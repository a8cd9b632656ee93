use Rattle.cert_index.specs.Shorter.{IsUnitOf}
use Rattle.cert_index.proofs.PlaceLaws.{place_some}
use Rattle.cert_index.proofs.ShorterLaws.{unit_is_shorter}
use Rattle.cert_index.proofs.covers.shorter_place.Goals as goal

pub returns-in-Some-clause-some : goal.returns-in-Some-clause-some
returns-in-Some-clause-some c =
    let ms = c.args.members.now in
    unit_is_shorter c.args.bank.now ms c.args.len c.args.c.now c.in-Some.k c.if-len-gt1.true (place_some (IsUnitOf c.args.c.now) ms c.in_ok-k.field-0 c.in-Some.k c.in_ok-k.ensures.some c.in-Some.is)
