use Rattle.cert_items.specs.declared.shape.TextShape.{TextShape}
use Rattle.cert_reader.proofs.Beginnings.{no_format, wrong_format, other_format, known_begun}
use Rattle.cert_reader.proofs.start.third.Goals as goal

pub returns-in-None : goal.returns-in-None
returns-in-None c text h is = no_format c.args.refutation c.args.name.now text c.args.bytes.now h is c.in-None.ensures.none

pub returns-in-Some-format_of : goal.returns-in-Some-format_of
returns-in-Some-format_of c text h is =
    let f = c.in-Some-format_of in
    let s : TextShape = record { refutation = c.args.refutation; format = f.format } in
    known_begun s c.args.name.now text c.args.bytes.now c.in-Some.digits.now c.in-Some.rest.now h f.ensures.some.1 is c.in-Some.ensures.some f.ensures.some.0

pub returns-then-is_other_format : goal.returns-then-is_other_format
returns-then-is_other_format c text h is =
    other_format c.args.refutation c.args.name.now text c.args.bytes.now c.in-Some.digits.now c.in-Some.rest.now h is c.in-Some.ensures.some (c.is_other_format.ensures.yes c.if-is_other_format.true)

pub returns-else-is_other_format : goal.returns-else-is_other_format
returns-else-is_other_format c text h is =
    wrong_format c.args.refutation c.args.name.now text c.args.bytes.now c.in-Some.digits.now c.in-Some.rest.now h is c.in-Some.ensures.digits c.in-Some.ensures.some c.in-None-format_of.ensures.none (c.is_other_format.ensures.no c.if-is_other_format.false)
