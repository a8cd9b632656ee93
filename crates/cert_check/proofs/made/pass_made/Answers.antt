use Rattle.std.proofs.Common.{List, subst}
use Rattle.cert_values.specs.declared.certificate.Cover.{Cover}
use Rattle.cert_check.specs.Made.{AreMade}
use Rattle.cert_check.proofs.MadePairs.{made_passes}
use Rattle.cert_check.proofs.made.pass_made.Goals as goal

pub returns-in-Some-clause-yes : goal.returns-in-Some-clause-yes
returns-in-Some-clause-yes c e =
    let cert = c.args.cert.now in
    let p = c.args.progress.now in
    made_passes cert c.requires.comparable.base c.requires.comparable.placed c.args.i c.args.j c.requires.left c.requires.right p c.if-progress.false c.in-Some.count
    (subst (λ (vs : List Cover). AreMade cert.cert vs c.args.i c.args.j p.count c.in-Some.count) c.as_slice-covers.ensures c.in-Some.ensures)
