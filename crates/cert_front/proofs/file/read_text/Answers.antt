use Rattle.std.proofs.Common.{sym, subst}
use Rattle.cert_front.specs.Certificates.{IsTextFault}
use Rattle.cert_front.specs.declared.fault.CertFault.{CertFault}
use Rattle.cert_front.proofs.Reading.{text_fault}
use Rattle.cert_front.proofs.file.read_text.Goals as goal

pub returns-in-Err-clause-refused : goal.returns-in-Err-clause-refused
returns-in-Err-clause-refused c =
    let cause = text_fault c.args.text.now c.read_certificate.result c.in-Err.error c.in-Err.is c.read_certificate.ensures.syntax c.read_certificate.ensures.version in
    subst (λ (f : CertFault). IsTextFault c.args.text.now f) (sym c.of_text.ensures) cause
