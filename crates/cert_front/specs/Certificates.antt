-- The certificate of a file, and why there is none.
use Rattle.std.specs.Prelude.{ℕ, ◌≡◌, ◌<◌, List, Option, Some, None, IfSome, length, ⊤}
use Rattle.outside_io.specs.Causes.{Rose}
use Rattle.outside_io.specs.Files.{bytes_named}
use Rattle.outside_io.specs.declared.library.NamedFile.{NamedFile}
use Rattle.outside_io.specs.WholeFiles.{IsHeld}
use Rattle.cert_format.specs.Certificate.{Certificate}
use Rattle.cert_reader.specs.Reads.{IsSyntaxAt, IsTextOf, IsVersion}
use Rattle.cert_front.specs.declared.fault.CertFault.{CertFault}
use Rattle.cert_front.specs.declared.fault.CertFault.TheVariants.{Absent, TooLong, ReadFault, Syntax, Version, NoSaturation, Memory}

-- the most bytes of a certificate's file
abbrev pub limit : ℕ
limit = 268435456

-- the bytes are the certificate's text in some format, under some name
abbrev pub HasText : Certificate → List ℕ → Type 0
HasText c bytes = (format : ℕ) × (name : List ℕ) × IsTextOf bytes format name c

-- The file of this name is not too long and is the text of the certificate.
pub record IsCertificateOf (files : Option (List NamedFile)) (name : List ℕ) (c : Certificate) : Type 0 where
  pub bytes : List ℕ
  pub held : IsHeld limit files name bytes
  pub text : HasText c bytes

-- The file of this name is not too long and is the text of the certificate in this format and under this name.
pub record IsTextIn (files : Option (List NamedFile)) (file : List ℕ) (format : ℕ) (name : List ℕ) (c : Certificate) : Type 0 where
  pub bytes : List ℕ
  pub held : IsHeld limit files file bytes
  pub text : IsTextOf bytes format name c

-- ---- why there is none

-- why a text is that of no certificate
abbrev pub IsTextFault : List ℕ → CertFault → Type 0
IsTextFault bytes Absent = ⊥
IsTextFault bytes TooLong = ⊥
IsTextFault bytes ReadFault = ⊥
IsTextFault bytes (Syntax line) = IsSyntaxAt bytes line
IsTextFault bytes (Version word) = IsVersion bytes word
IsTextFault bytes NoSaturation = ⊥
IsTextFault bytes Memory = ⊤

-- the file of this name is there, and has more bytes than the most
abbrev pub IsLong : List ℕ → List NamedFile → Type 0
IsLong name files = (bytes : List ℕ) × (bytes_named files name ≡ Some bytes) × (limit < length bytes)

-- why the file of this name is that of no certificate, whatever the library's calls answer
abbrev pub IsBarred : Option (List NamedFile) → List ℕ → CertFault → Type 0
IsBarred files name Absent = IfSome files (λ told. bytes_named told name ≡ None)
IsBarred files name TooLong = IfSome files (IsLong name)
IsBarred files name ReadFault = ⊥
IsBarred files name (Syntax line) = (bytes : List ℕ) × IsHeld limit files name bytes × IsSyntaxAt bytes line
IsBarred files name (Version word) = (bytes : List ℕ) × IsHeld limit files name bytes × IsVersion bytes word
IsBarred files name NoSaturation = ⊥
IsBarred files name Memory = ⊥

-- Why the file of this name gives no certificate; the count of faults goes from before to now.
abbrev pub IsCertFault : Option (List NamedFile) → ℕ → ℕ → List ℕ → CertFault → Type 0
IsCertFault files before now name Absent = IsBarred files name Absent
IsCertFault files before now name TooLong = IsBarred files name TooLong
IsCertFault files before now name ReadFault = Rose before now
IsCertFault files before now name (Syntax line) = IsBarred files name (Syntax line)
IsCertFault files before now name (Version word) = IsBarred files name (Version word)
IsCertFault files before now name NoSaturation = ⊥
IsCertFault files before now name Memory = ⊤
