use Rattle.std.proofs.Common.{◌∙◌, ap}
use Rattle.cert_format.specs.LineMachine.{status}
use Rattle.cert_format.specs.LineTexts.{line}
use Rattle.cert_reader.proofs.Beginnings.{bad_first, bad_second}
use Rattle.cert_reader.proofs.start.begin.Goals as goal

pub returns-in-None : goal.returns-in-None
returns-in-None c = bad_first c.args.text.now c.in-None.ensures.none

pub returns-in-None-opening : goal.returns-in-None-opening
returns-in-None-opening c =
    let s = c.in-Some in
    bad_second s.refutation s.name.now c.args.text.now s.after.now s.ensures.some.1 s.ensures.some.0 c.in-None-opening.ensures.none

pub returns-in-Some-opening : goal.returns-in-Some-opening
returns-in-Some-opening c =
    let s = c.in-Some in
    c.third.ensures c.args.text.now s.ensures.some.1 (s.ensures.some.0 ∙ ap (line (status s.refutation s.name.now)) c.in-Some-opening.ensures.some)
