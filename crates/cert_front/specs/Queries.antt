-- What the saturation of a file says of an atom.
use Rattle.std.specs.Prelude.{ℕ, ◌≡◌, ◌⊎◌, true, false, List, Option, Some, Result, Ok, Err, ⊤}
use Rattle.outside_io.specs.Causes.{Rose}
use Rattle.outside_io.specs.declared.library.NamedFile.{NamedFile}
use Rattle.inst_logic.specs.Tree.{Tree}
use Rattle.cert_format.specs.Certificate.{Certificate}
use Rattle.cert_format.specs.ValueLines.{is_refutation}
use Rattle.cert_front.specs.Replies.{IsReply}
use Rattle.cert_front.specs.declared.reply.Reply.{Reply}
use Rattle.cert_front.specs.Certificates.{IsBarred, IsCertificateOf}
use Rattle.cert_front.specs.declared.fault.CertFault.{CertFault}
use Rattle.cert_front.specs.declared.fault.CertFault.TheVariants.{Absent, TooLong, ReadFault, Syntax, Version, NoSaturation, Memory}

-- the reply of the saturation of the file of this name
pub record IsReplied (files : Option (List NamedFile)) (name : List ℕ) (a : Tree) (reply : Reply) : Type 0 where
  pub certificate : Certificate
  pub no_refutation : is_refutation certificate ≡ false
  pub held : IsCertificateOf files name certificate
  pub replied : IsReply certificate a reply

-- the file of this name has a refutation
abbrev pub HasRefutation : Option (List NamedFile) → List ℕ → Type 0
HasRefutation files name = (c : Certificate) × (is_refutation c ≡ true) × IsCertificateOf files name c

-- why a certificate that was read gives no reply
abbrev pub IsUnasked : Certificate → CertFault → Type 0
IsUnasked c Absent = ⊥
IsUnasked c TooLong = ⊥
IsUnasked c ReadFault = ⊥
IsUnasked c (Syntax line) = ⊥
IsUnasked c (Version word) = ⊥
IsUnasked c NoSaturation = is_refutation c ≡ true
IsUnasked c Memory = ⊤

-- Why there is no reply; the count of faults goes from before to now.
abbrev pub IsAskFault : Option (List NamedFile) → ℕ → ℕ → List ℕ → CertFault → Type 0
IsAskFault files before now name Absent = IsBarred files name Absent
IsAskFault files before now name TooLong = IsBarred files name TooLong
IsAskFault files before now name ReadFault = Rose before now
IsAskFault files before now name (Syntax line) = IsBarred files name (Syntax line)
IsAskFault files before now name (Version word) = IsBarred files name (Version word)
IsAskFault files before now name NoSaturation = HasRefutation files name
IsAskFault files before now name Memory = ⊤

-- ---- what the files say, where they are told

-- why the file of this name is that of no saturation, whatever the library's calls answer
abbrev pub IsNoSaturation : Option (List NamedFile) → List ℕ → CertFault → Type 0
IsNoSaturation files name Absent = IsBarred files name Absent
IsNoSaturation files name TooLong = IsBarred files name TooLong
IsNoSaturation files name ReadFault = ⊥
IsNoSaturation files name (Syntax line) = IsBarred files name (Syntax line)
IsNoSaturation files name (Version word) = IsBarred files name (Version word)
IsNoSaturation files name NoSaturation = HasRefutation files name
IsNoSaturation files name Memory = ⊥

-- the answer that the files give
abbrev pub IsFoundReply : List NamedFile → List ℕ → Tree → Result Reply CertFault → Type 0
IsFoundReply files name a (Ok reply) = IsReplied (Some files) name a reply
IsFoundReply files name a (Err fault) = IsNoSaturation (Some files) name fault

-- the answer is a fault of reading that has its cause, or want of memory
abbrev pub YieldsReply : ℕ → ℕ → Result Reply CertFault → Type 0
YieldsReply before now answer = ((answer ≡ Err ReadFault) × Rose before now) ⊎ (answer ≡ Err Memory)

-- The answer is one that the files give, or yields; and each that the files give is this one, unless it yields.
pub record IsExactReply (files : List NamedFile) (before now : ℕ) (name : List ℕ) (a : Tree) (answer : Result Reply CertFault) : Type 0 where
  pub cause : IsFoundReply files name a answer ⊎ YieldsReply before now answer
  pub each : (other : Result Reply CertFault) → IsFoundReply files name a other → (answer ≡ other) ⊎ YieldsReply before now answer
