-- What an error says, read off its cause; and what an ending says.
use Rattle.std.proofs.Common.{◌≡◌, ℕ, List, [], refl, subst, sym}
use Rattle.std.specs.Prelude.{Result, Ok, Err, IfErr}
use Rattle.cert_reader.specs.declared.error.CertError.{CertError}
use Rattle.cert_reader.specs.declared.error.CertError.TheVariants as errors
use Rattle.cert_format.specs.LineMachine.{Item, Header}
use Rattle.cert_reader.specs.declared.body.Ending.{Ending}
use Rattle.cert_reader.specs.declared.body.Ending.TheVariants.{Complete, BadLine}
use Rattle.cert_reader.specs.Bodies.{HasRead, IsComplete, IsRefusedAt, EndsSo}
use Rattle.cert_reader.specs.Reads.{IsCause, IsSyntaxAt, IsVersion, HasVersion}
use Rattle.cert_format.specs.ValueLines.{IsCertificateText}
use Rattle.cert_reader.proofs.OneReading.{has_lines, no_certificate}

pub syntax_of : {A : Type 0} (r : Result A CertError) (text : List ℕ) → IfErr r (IsCause text) → (line : ℕ) → r ≡ Err (errors.Syntax line) → IsSyntaxAt text line
syntax_of {A} r text h line e = subst (λ (x : Result A CertError). IfErr x (IsCause text)) e h

pub version_of : {A : Type 0} (r : Result A CertError) (text : List ℕ) → IfErr r (IsCause text) → (word : List ℕ) → r ≡ Err (errors.Version word) → IsVersion text word
version_of {A} r text h word e = subst (λ (x : Result A CertError). IfErr x (IsCause text)) e h

pub refused_syntax : (text : List ℕ) (n : ℕ) → IsRefusedAt text n → ¬ HasVersion text → IsSyntaxAt text n
refused_syntax text n r v = record { first = r.first; no_text = r.no_text; no_version = v }

-- ---- the text of a certificate is refused for want of memory alone

memory_alone : (text : List ℕ) (why : CertError) → IsCause text why → IsCertificateText text → why ≡ errors.Memory
memory_alone text (errors.Syntax line) h t = absurd (h.no_text t)
memory_alone text (errors.Version word) h t = absurd (no_certificate has_lines text word h t)
memory_alone text errors.Memory h t = refl

pub taken_of : {A : Type 0} (r : Result A CertError) (text : List ℕ) → IfErr r (IsCause text) → IsCertificateText text → IfErr r (λ why. why ≡ errors.Memory)
taken_of (Ok c) text h t = h
taken_of (Err why) text h t = memory_alone text why h t

-- ---- endings

pub complete_is : (text : List ℕ) (h : Header) (is : List Item) (e : Ending) → e ≡ Complete → EndsSo text h is e → IsComplete text h is
complete_is text h is e q k = subst (EndsSo text h is) q k

pub bad_line_is : (text : List ℕ) (h : Header) (is : List Item) (e : Ending) (n : ℕ) → e ≡ BadLine n → EndsSo text h is e → IsRefusedAt text n
bad_line_is text h is e n q k = subst (EndsSo text h is) q k

-- before the first item
pub from_nothing : (text : List ℕ) (h : Header) (is : List Item) (lines : ℕ) (rest : List ℕ) → is ≡ [] → HasRead text h [] lines rest → HasRead text h is lines rest
from_nothing text h is lines rest e p = subst (λ (js : List Item). HasRead text h js lines rest) (sym e) p
