-- A file that is told has at most one certificate, or is barred for one reason, and not both.
use Rattle.std.proofs.Common.{◌≡◌, ℕ, ◌<◌, ◌≤◌, List, Option, Some, None, length, inl, inr, refl, sym, ap, subst, ◌∙◌, arith}
use Rattle.std.proofs.lemmas.Bool.{cases_lt}
use Rattle.outside_io.specs.Files.{bytes_named}
use Rattle.outside_io.specs.declared.library.NamedFile.{NamedFile}
use Rattle.outside_io.specs.WholeFiles.{IsHeld}
use Rattle.cert_format.specs.Certificate.{Certificate}
use Rattle.cert_format.specs.Fronts.{IsBadLine}
use Rattle.cert_format.specs.Printable.{IsPrintable, IsTextName}
use Rattle.cert_format.specs.Text.{certificate_text}
use Rattle.cert_format.specs.ValueLines.{IsCertificateText}
use Rattle.cert_reader.specs.Reads.{IsVersion}
use Rattle.cert_front.specs.Certificates.{HasText, IsBarred, IsCertificateOf, IsLong, limit}
use Rattle.cert_front.specs.declared.fault.CertFault.{CertFault}
use Rattle.cert_front.specs.declared.fault.CertFault.TheVariants.{Absent, TooLong, ReadFault, Syntax, Version, NoSaturation, Memory}

-- that a text is the text of at most one certificate, and names at most one other format, and not both
pub record TextsAreOne : Type 0 where
  pub certificates : (f g : ℕ) (m n : List ℕ) (c d : Certificate) → IsTextName m → IsTextName n → IsPrintable f c → IsPrintable g d
      → certificate_text f m c ≡ certificate_text g n d → (f ≡ g) × (m ≡ n) × (c ≡ d)
  pub versions : (text v w : List ℕ) → IsVersion text v → IsVersion text w → v ≡ w
  pub apart : (text word : List ℕ) → IsVersion text word → ¬ IsCertificateText text

some_bytes : (o : Option (List ℕ)) (a b : List ℕ) → o ≡ Some a → o ≡ Some b → a ≡ b
some_bytes o a b h k = cc

not_none : (o : Option (List ℕ)) (a : List ℕ) → o ≡ Some a → o ≡ None → ⊥
not_none o a h k = cc

text_is : (text : List ℕ) (c : Certificate) → HasText c text → IsCertificateText text
text_is text c t = record { format = t.0; name = t.1; value = c; name_is = t.2.name_is; printable = t.2.printable; is = t.2.is }

one_line : (T : List ℕ → Type 0) (text : List ℕ) (l m : ℕ) → IsBadLine T l text → IsBadLine T m text → l ≡ m
one_line T text l m a b = elim (cases_lt l m) [
  | inl less ↦ absurd (a.bad (b.least l less))
  | inr more ↦ elim (cases_lt m l) [
    | inl less ↦ absurd (b.bad (a.least m less))
    | inr other ↦ omega (arith, more, other)
  ]
]

module _ (laws : TextsAreOne) (files : List NamedFile) (name : List ℕ) where
  same_bytes : (a b : List ℕ) → IsHeld limit (Some files) name a → IsHeld limit (Some files) name b → a ≡ b
  same_bytes a b h k = some_bytes (bytes_named files name) a b h.1 k.1

  pub one_certificate : (c d : Certificate) → IsCertificateOf (Some files) name c → IsCertificateOf (Some files) name d → c ≡ d
  one_certificate c d h k =
      let a = h.text.2 in
      let b = k.text.2 in
      let text = sym a.is ∙ same_bytes h.bytes k.bytes h.held k.held ∙ b.is in
      (laws.certificates h.text.0 k.text.0 h.text.1 k.text.1 c d a.name_is b.name_is a.printable b.printable text).2

  not_long : (a : List ℕ) → IsHeld limit (Some files) name a → IsLong name files → ⊥
  not_long a h k =
      let same = some_bytes (bytes_named files name) k.0 a k.1 h.1 in
      let more : limit < length a = subst (λ (b : List ℕ). limit < length b) same k.2 in
      let few : length a ≤ limit = h.0 in
      omega (arith, more, few)

  -- the bytes that are held are those of a certificate
  text_held : (c : Certificate) (a : List ℕ) → IsCertificateOf (Some files) name c → IsHeld limit (Some files) name a → IsCertificateText a
  text_held c a h k = subst (λ (b : List ℕ). IsCertificateText b) (same_bytes h.bytes a h.held k) (text_is h.bytes c h.text)

  pub not_barred : (c : Certificate) (f : CertFault) → IsCertificateOf (Some files) name c → IsBarred (Some files) name f → ⊥
  not_barred c Absent h k = not_none (bytes_named files name) h.bytes h.held.1 k
  not_barred c TooLong h k = not_long h.bytes h.held k
  not_barred c ReadFault h k = k
  not_barred c (Syntax line) h k = k.2.no_text (text_held c k.0 h k.1)
  not_barred c (Version word) h k = laws.apart k.0 word k.2 (text_held c k.0 h k.1)
  not_barred c NoSaturation h k = k
  not_barred c Memory h k = k

  -- at a line, and with another format
  not_both : (line : ℕ) (word : List ℕ) → IsBarred (Some files) name (Syntax line) → IsBarred (Some files) name (Version word) → ⊥
  not_both line word h k = h.2.no_version (word, subst (λ (b : List ℕ). IsVersion b word) (same_bytes k.0 h.0 k.1 h.1) k.2)

  pub one_bar : (e f : CertFault) → IsBarred (Some files) name e → IsBarred (Some files) name f → e ≡ f
  one_bar Absent Absent h k = refl
  one_bar Absent TooLong h k = absurd (not_none (bytes_named files name) k.0 k.1 h)
  one_bar Absent (Syntax m) h k = absurd (not_none (bytes_named files name) k.0 k.1.1 h)
  one_bar Absent (Version w) h k = absurd (not_none (bytes_named files name) k.0 k.1.1 h)
  one_bar TooLong Absent h k = absurd (not_none (bytes_named files name) h.0 h.1 k)
  one_bar TooLong TooLong h k = refl
  one_bar TooLong (Syntax m) h k = absurd (not_long k.0 k.1 h)
  one_bar TooLong (Version w) h k = absurd (not_long k.0 k.1 h)
  one_bar (Syntax l) Absent h k = absurd (not_none (bytes_named files name) h.0 h.1.1 k)
  one_bar (Syntax l) TooLong h k = absurd (not_long h.0 h.1 k)
  one_bar (Syntax l) (Syntax m) h k =
      ap Syntax (one_line IsCertificateText h.0 l m h.2.first (subst (λ (b : List ℕ). IsBadLine IsCertificateText m b) (same_bytes k.0 h.0 k.1 h.1) k.2.first))
  one_bar (Syntax l) (Version w) h k = absurd (not_both l w h k)
  one_bar (Version v) Absent h k = absurd (not_none (bytes_named files name) h.0 h.1.1 k)
  one_bar (Version v) TooLong h k = absurd (not_long h.0 h.1 k)
  one_bar (Version v) (Syntax m) h k = absurd (not_both m v k h)
  one_bar (Version v) (Version w) h k =
      ap Version (laws.versions h.0 v w h.2 (subst (λ (b : List ℕ). IsVersion b w) (same_bytes k.0 h.0 k.1 h.1) k.2))
  one_bar e ReadFault h k = absurd k
  one_bar e NoSaturation h k = absurd k
  one_bar e Memory h k = absurd k
  one_bar ReadFault f h k = absurd h
  one_bar NoSaturation f h k = absurd h
  one_bar Memory f h k = absurd h
