use Rattle.std.proofs.Common.{◌≡◌, sym, true, false, ◌∙◌}
use Rattle.cert_check.proofs.Placed.{placed_right, not_placed}
use Rattle.cert_check.proofs.places.is_placed.Goals as goal

pub returns-in-Some-get-clause-right : goal.returns-in-Some-get-clause-right
returns-in-Some-get-clause-right c h =
    placed_right c.args.cert.now c.args.i c.in-Some.member.now c.in-Some-get.place.now (sym c.in-Some.ensures) (sym c.in-Some-get.ensures) (c.has_literal.ensures.0 h).0 (c.has_literal.ensures.0 h).1

pub returns-in-Some-get-clause-wrong : goal.returns-in-Some-get-clause-wrong
returns-in-Some-get-clause-wrong c h within =
    not_placed c.args.cert.now c.args.i within c.in-Some.member.now c.in-Some-get.place.now (sym c.in-Some.ensures) (sym c.in-Some-get.ensures) (λ p. let t : false ≡ true = sym h ∙ c.has_literal.ensures.1 p in cc)
