-- Why a text is not read, as the reader says it.
use Rattle.std.proofs.Common.{◌≡◌, ℕ, List, Result, Err, IsErrOf}
use Rattle.cert_reader.specs.Reads.{IsSyntaxAt, IsVersion}
use Rattle.cert_reader.specs.declared.error.CertError.{CertError}
use Rattle.cert_reader.specs.declared.error.CertError.TheVariants as text
use Rattle.cert_front.specs.Certificates.{IsTextFault}
use Rattle.cert_front.specs.Faults.{fault_of_text}

pub text_fault : {A : Type 0} (bytes : List ℕ) (r : Result A CertError) (e : CertError) → r ≡ Err e → ((line : ℕ) → IsErrOf r (text.Syntax line) → IsSyntaxAt bytes line)
    → ((word : List ℕ) → IsErrOf r (text.Version word) → IsVersion bytes word) → IsTextFault bytes (fault_of_text e)
text_fault bytes r (text.Syntax line) is syntax version = syntax line is
text_fault bytes r (text.Version word) is syntax version = version word is
text_fault bytes r text.Memory is syntax version = tt
