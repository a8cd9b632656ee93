use Rattle.cert_reader.specs.Bodies.{refutation_in}
use Rattle.cert_reader.proofs.Beginnings.{bad_constant, refutation_begun, no_other_format}
use Rattle.cert_reader.proofs.read.begun_refutation.Goals as goal

pub returns-in-None-clause-refused : goal.returns-in-None-clause-refused
returns-in-None-clause-refused c text b = bad_constant text c.args.format c.args.name.now c.args.bytes.now b c.in-None.ensures.none

pub returns-in_ok-bot-in-Some-clause-read : goal.returns-in_ok-bot-in-Some-clause-read
returns-in_ok-bot-in-Some-clause-read c text b =
    let k = c.in_ok-bot-in-Some in
    c.read_refutation.ensures.read text (refutation_begun text c.args.format c.args.name.now k.bot.name c.in-Some.text.now c.args.bytes.now c.in-Some.rest.now b c.in-Some.ensures.some.0 k.ensures.name k.ensures.readable)

pub returns-in_ok-bot-in-Some-clause-refused : goal.returns-in_ok-bot-in-Some-clause-refused
returns-in_ok-bot-in-Some-clause-refused c text b =
    let k = c.in_ok-bot-in-Some in
    c.read_refutation.ensures.refused text (refutation_begun text c.args.format c.args.name.now k.bot.name c.in-Some.text.now c.args.bytes.now c.in-Some.rest.now b c.in-Some.ensures.some.0 k.ensures.name k.ensures.readable) (no_other_format text (refutation_in c.args.format) c.args.name.now c.args.bytes.now b)
