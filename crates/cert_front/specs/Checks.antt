-- What is found of the certificate of a file and the problem of another.
use Rattle.std.specs.Prelude.{ℕ, ◌≡◌, ◌≢◌, ◌⊎◌, List, Option, Some, None, Result, Ok, Err, ⊤}
use Rattle.outside_io.specs.Causes.{Rose}
use Rattle.outside_io.specs.declared.library.NamedFile.{NamedFile}
use Rattle.inst_logic.specs.declared.clause.Problem.{Problem}
use Rattle.cert_format.specs.Certificate.{Certificate, first_refutation, refutation, saturation, covered}
use Rattle.tptp_load.specs.Problems.{IsLoadCause, Loads, Refuses, Told}
use Rattle.tptp_load.specs.declared.error.LoadError.{LoadError}
use Rattle.tptp_load.specs.declared.error.LoadError.TheVariants as load
use Rattle.cert_front.specs.Judgements.{IsJudgement}
use Rattle.cert_front.specs.declared.judgement.Judgement.{Judgement}
use Rattle.cert_front.specs.declared.words.Form.{Form}
use Rattle.cert_front.specs.declared.words.Form.TheVariants as form
use Rattle.cert_front.specs.Certificates.{IsBarred, IsCertFault, IsCertificateOf}
use Rattle.cert_front.specs.declared.check.CheckFault.{CheckFault}
use Rattle.cert_front.specs.declared.check.CheckFault.TheVariants.{Cert, Problem as ProblemFault, Memory}
use Rattle.cert_front.specs.declared.fault.CertFault.{CertFault}
use Rattle.cert_front.specs.declared.fault.CertFault.TheVariants as cert

abbrev pub form_of : Certificate → Form
form_of (first_refutation r) = form.Refutation
form_of (refutation r) = form.Refutation
form_of (saturation s) = form.Saturation
form_of (covered c) = form.Saturation

-- want of memory is no fault of a file
abbrev pub of_cert : CertFault → CheckFault
of_cert cert.Absent = Cert cert.Absent
of_cert cert.TooLong = Cert cert.TooLong
of_cert cert.ReadFault = Cert cert.ReadFault
of_cert (cert.Syntax line) = Cert (cert.Syntax line)
of_cert (cert.Version word) = Cert (cert.Version word)
of_cert cert.NoSaturation = Cert cert.NoSaturation
of_cert cert.Memory = Memory

abbrev pub of_load : LoadError → CheckFault
of_load (load.Text file fault) = ProblemFault (load.Text file fault)
of_load (load.Absent wanted) = ProblemFault (load.Absent wanted)
of_load (load.NotSelected file wanted) = ProblemFault (load.NotSelected file wanted)
of_load (load.IncludeDepth file) = ProblemFault (load.IncludeDepth file)
of_load load.TooLong = ProblemFault load.TooLong
of_load load.ReadFault = ProblemFault load.ReadFault
of_load load.Memory = Memory

-- where a file is named, what it gives; and else nothing
abbrev pub IsProblemOf : Option (List NamedFile) → Option (List ℕ) → Option (List ℕ) → Option Problem → Type 0
IsProblemOf files None root None = ⊤
IsProblemOf files None root (Some p) = ⊥
IsProblemOf files (Some file) root None = ⊥
IsProblemOf files (Some file) root (Some p) = Told files (λ told. Loads told file root p)

-- the form of the certificate, and its judgement for the problem of the file that is named, if one is
pub record IsJudgedAs (files : Option (List NamedFile)) (problem root : Option (List ℕ)) (c : Certificate) (found : Form × Judgement) : Type 0 where
  pub form : found.0 ≡ form_of c
  pub against : Option Problem
  pub loads : IsProblemOf files problem root against
  pub judgement : IsJudgement against c found.1

-- so judged is the certificate of the file of this name
pub record IsJudged (files : Option (List NamedFile)) (name : List ℕ) (problem root : Option (List ℕ)) (found : Form × Judgement) : Type 0 where
  pub certificate : Certificate
  pub held : IsCertificateOf files name certificate
  pub judged : IsJudgedAs files problem root certificate found

-- ---- why nothing is found; the count of faults goes from before to now

abbrev pub IsProblemFault : Option (List NamedFile) → ℕ → ℕ → Option (List ℕ) → Option (List ℕ) → LoadError → Type 0
IsProblemFault files before now None root e = ⊥
IsProblemFault files before now (Some file) root e = IsLoadCause files before now file root e

abbrev pub HasCertificate : Option (List NamedFile) → List ℕ → Type 0
HasCertificate files name = (c : Certificate) × IsCertificateOf files name c

-- why a certificate that was read is not judged
abbrev pub IsUnjudged : Option (List NamedFile) → ℕ → ℕ → Option (List ℕ) → Option (List ℕ) → CheckFault → Type 0
IsUnjudged files before now problem root (Cert fault) = ⊥
IsUnjudged files before now problem root (ProblemFault e) = (e ≢ load.Memory) × IsProblemFault files before now problem root e
IsUnjudged files before now problem root Memory = ⊤

-- The file of the certificate is refused; or it has one, and the file of the problem is refused. Want of memory is no fault of
-- a file.
abbrev pub IsCheckFault : Option (List NamedFile) → ℕ → ℕ → List ℕ → Option (List ℕ) → Option (List ℕ) → CheckFault → Type 0
IsCheckFault files before now name problem root (Cert fault) = (fault ≢ cert.Memory) × IsCertFault files before now name fault
IsCheckFault files before now name problem root (ProblemFault e) = HasCertificate files name × (e ≢ load.Memory) × IsProblemFault files before now problem root e
IsCheckFault files before now name problem root Memory = ⊤

-- ---- what the files say, where they are told

abbrev pub Refuse : List NamedFile → Option (List ℕ) → Option (List ℕ) → LoadError → Type 0
Refuse files None root e = ⊥
Refuse files (Some file) root e = Refuses files file root e

-- the answer that the files give
abbrev pub IsFound : List NamedFile → List ℕ → Option (List ℕ) → Option (List ℕ) → Result (Form × Judgement) CheckFault → Type 0
IsFound files name problem root (Ok found) = IsJudged (Some files) name problem root found
IsFound files name problem root (Err (Cert fault)) = IsBarred (Some files) name fault
IsFound files name problem root (Err (ProblemFault e)) = HasCertificate (Some files) name × Refuse files problem root e
IsFound files name problem root (Err Memory) = ⊥

-- the answer is a fault of reading that has its cause, or want of memory
abbrev pub Yields : ℕ → ℕ → Result (Form × Judgement) CheckFault → Type 0
Yields before now (Ok found) = ⊥
Yields before now (Err (Cert fault)) = (fault ≡ cert.ReadFault) × Rose before now
Yields before now (Err (ProblemFault e)) = (e ≡ load.ReadFault) × Rose before now
Yields before now (Err Memory) = ⊤

-- The answer is one that the files give, or yields; and each that the files give is this one, unless it yields.
pub record IsExactCheck (files : List NamedFile) (before now : ℕ) (name : List ℕ) (problem root : Option (List ℕ)) (answer : Result (Form × Judgement) CheckFault) : Type 0 where
  pub cause : IsFound files name problem root answer ⊎ Yields before now answer
  pub each : (other : Result (Form × Judgement) CheckFault) → IsFound files name problem root other → (answer ≡ other) ⊎ Yields before now answer
