use Rattle.std.proofs.Common.{[], refl, sym, subst}
use Rattle.std.proofs.lemmas.Result.{err_from_is_err_and}
use Rattle.cert_reader.specs.declared.certificate.Certificate.{Certificate}
use Rattle.cert_reader.specs.Bodies.{header, saturation_in}
use Rattle.cert_reader.specs.Reads.{IsTextOf, IsWholeCertificate, value_of}
use Rattle.cert_reader.proofs.Values.{saturation_read, saturation_whole}
use Rattle.cert_reader.proofs.read.read_saturation.Goals as goal

pub returns-clause-read : goal.returns-clause-read
returns-clause-read c text p =
    let v = c.args.format in
    let n = c.args.name.now in
    let k = c.in_ok-content in
    subst (λ (r : Certificate). IsTextOf text v n (value_of r)) (sym c.saturation.ensures)
    (saturation_read text v k.content.bank k.content.groups n c.requires.known k.ensures.groups
    (k.ensures.complete text (header (saturation_in v) n []) refl refl p))

pub returns-clause-whole : goal.returns-clause-whole
returns-clause-whole c =
    let k = c.in_ok-content in
    subst IsWholeCertificate (sym c.saturation.ensures) (saturation_whole c.args.format k.content.bank k.content.groups k.ensures.groups)

pub returns-in_err-content-clause-refused : goal.returns-in_err-content-clause-refused
returns-in_err-content-clause-refused c text p v =
    let f = c.from_residual in
    let e = err_from_is_err_and f.result f.ensures.1 in
    rw (e.1, e.2) (c.in_err-content.ensures.refused text (header (saturation_in c.args.format) c.args.name.now []) refl refl p v)
