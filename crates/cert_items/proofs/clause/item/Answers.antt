use Rattle.std.proofs.Common.{length, ap, arith}
use Rattle.cert_items.specs.Roots.{IsLiteralAt, NoForm}
use Rattle.cert_items.proofs.Reading.{is_none, is_some}
use Rattle.cert_items.proofs.Clauses.{no_item, no_end, form_longer, ended_longer}
use Rattle.cert_items.proofs.clause.item.Goals as goal

pub returns-in-Ok-None-clause-none : goal.returns-in-Ok-None-clause-none
returns-in-Ok-None-clause-none c = no_item c.args.rest.now (is_none c.in-Ok-None.field-0 (NoForm c.args.rest.now) c.in-Ok-None.field-0-is c.in-Ok-None.ensures.none)

pub returns-in_default-clause-none : goal.returns-in_default-clause-none
returns-in_default-clause-none c =
    let a = is_some c.in-Ok-Some.field-0 (c.in-Ok-Some.l, c.in-Ok-Some.after) (λ p. IsLiteralAt c.literal.new.bank p.0 c.args.rest.now p.1.now) c.in-Ok-Some.field-0-is c.in-Ok-Some.ensures.some in
    no_end c.args.rest.now c.in-Ok-Some.after.now a.form a.is a.printable a.follows c.in_default.ensures.none

pub returns-in_ok-push-in-Ok-Some-clause-shorter : goal.returns-in_ok-push-in-Ok-Some-clause-shorter
returns-in_ok-push-in-Ok-Some-clause-shorter c =
    let a = is_some c.in-Ok-Some.field-0 (c.in-Ok-Some.l, c.in-Ok-Some.after) (λ p. IsLiteralAt c.literal.new.bank p.0 c.args.rest.now p.1.now) c.in-Ok-Some.field-0-is c.in-Ok-Some.ensures.some in
    let l = form_longer a.form c.in-Ok-Some.after.now in
    let e = ended_longer c.in-Some.next.ended c.in-Some.next.rest.now in
    let p = ap length a.is in
    let q = ap length c.in-Some.ensures.some in
    omega arith
