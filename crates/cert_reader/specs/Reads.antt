-- What is read of a whole text, and why one is refused.
use Rattle.std.specs.Prelude.{◌≡◌, ◌≢◌, ◌≤◌, ℕ, List, [], ◌∷◌, ◌++◌, length, codes, decimal, ⊤, IsTrue}
use Rattle.std.specs.List.{list_all}
use Rattle.std.specs.Char.{is_ascii_digit}
use Rattle.cert_format.specs.Certificate as certificates
use Rattle.cert_format.specs.Formats.{is_known}
use Rattle.cert_format.specs.Fronts.{IsFront, IsBadLine}
use Rattle.cert_format.specs.Printable.{IsPrintable, IsTextName}
use Rattle.cert_format.specs.Text.{certificate_text}
use Rattle.cert_format.specs.ValueLines.{IsCertificateText}
use Rattle.cert_values.specs.Values.{first_of, refutation_of, saturation_of, covered_of}
use Rattle.cert_values.specs.Wholes.{IsWholeFirst, IsWholeRefutation, IsWholeSaturation, IsWholeCovered}
use Rattle.cert_reader.specs.declared.certificate.Certificate.{Certificate}
use Rattle.cert_reader.specs.declared.certificate.Certificate.TheVariants as forms
use Rattle.cert_reader.specs.declared.error.CertError.{CertError}
use Rattle.cert_reader.specs.declared.error.CertError.TheVariants as errors
use Rattle.inst_logic.specs.Codes as byte

-- ---- what is read

abbrev pub value_of : Certificate → certificates.Certificate
value_of (forms.First r) = certificates.first_refutation (first_of r)
value_of (forms.Refutation r) = certificates.refutation (refutation_of r)
value_of (forms.Saturation s) = certificates.saturation (saturation_of s)
value_of (forms.Covered c) = certificates.covered (covered_of c)

-- the certificate is printable in this format, and the text is its text in it under this name
pub record IsTextOf (text : List ℕ) (format : ℕ) (name : List ℕ) (c : certificates.Certificate) : Type 0 where
  pub name_is : IsTextName name
  pub printable : IsPrintable format c
  pub is : text ≡ certificate_text format name c

-- the ids are those of its bank
abbrev pub IsWholeCertificate : Certificate → Type 0
IsWholeCertificate (forms.First r) = IsWholeFirst r
IsWholeCertificate (forms.Refutation r) = IsWholeRefutation r
IsWholeCertificate (forms.Saturation s) = IsWholeSaturation s
IsWholeCertificate (forms.Covered c) = IsWholeCovered c

-- ---- what is refused

-- 1 to 18 digits, of which the first is not `0`, and which are the number of no format that is read
pub record IsOtherFormat (word : List ℕ) : Type 0 where
  pub digits : IsTrue (list_all is_ascii_digit word)
  pub some : word ≢ []
  pub few : length word ≤ 18
  pub plain : (rest : List ℕ) → word ≢ byte.digit_zero ∷ rest
  pub other : (format : ℕ) → IsTrue (is_known format) → word ≢ decimal format

-- the third line of a text but for the digits
abbrev pub format_line : List ℕ → List ℕ → List ℕ
format_line word rest = codes "% instgen certificate " ++ (word ++ byte.line_feed ∷ rest)

-- The first two lines are those of some certificate text, and the third is `% instgen certificate ` with the number of another
-- format.
pub record IsVersion (text word : List ℕ) : Type 0 where
  pub begun : IsFront IsCertificateText 2 text
  pub format : IsOtherFormat word
  pub rest : List ℕ
  pub third : text ≡ begun.front ++ format_line word rest

abbrev pub HasVersion : List ℕ → Type 0
HasVersion text = (word : List ℕ) × IsVersion text word

-- the line is the first that stands there in no certificate text, and the text is none, and none of another format
pub record IsSyntaxAt (text : List ℕ) (line : ℕ) : Type 0 where
  pub first : IsBadLine IsCertificateText line text
  pub no_text : ¬ IsCertificateText text
  pub no_version : ¬ HasVersion text

-- what an error says of the text; want of memory has no cause
abbrev pub IsCause : List ℕ → CertError → Type 0
IsCause text (errors.Syntax line) = IsSyntaxAt text line
IsCause text (errors.Version word) = IsVersion text word
IsCause text errors.Memory = ⊤
