-- Certificates in the format in which certificates are written.
use Rattle.std.specs.Prelude.{ℕ, ◌≡◌, ◌≢◌, List, Option, Result, Ok, Err}
use Rattle.outside_io.specs.declared.library.NamedFile.{NamedFile}
use Rattle.inst_logic.specs.declared.clause.Problem.{Problem}
use Rattle.cert_format.specs.Certificate.{Refutation, Covered, Certificate, first_refutation, refutation, saturation, covered}
use Rattle.cert_format.specs.Formats.{written_format}
use Rattle.cert_format.specs.Printable.{IsPrintable}
use Rattle.cert_format.specs.Text.{written_text}
use Rattle.cert_format.specs.Upgrades.{IsUpgrade}
use Rattle.cert_format.specs.Validity.{IsNamed}
use Rattle.cert_front.specs.Certificates.{IsCertificateOf}
use Rattle.cert_front.specs.Checks.{IsExactCheck, IsProblemOf, form_of}
use Rattle.cert_front.specs.Judgements.{IsJudgement}
use Rattle.cert_front.specs.declared.check.CheckFault.{CheckFault}
use Rattle.cert_front.specs.declared.judgement.Judgement.{Judgement}
use Rattle.cert_front.specs.declared.judgement.Judgement.TheVariants.{Valid}
use Rattle.cert_front.specs.declared.rewriting.Rewriting.{Rewriting}
use Rattle.cert_front.specs.declared.rewriting.Rewriting.TheVariants.{Text, Refused}
use Rattle.cert_front.specs.declared.words.Form.{Form}

-- The second is the first in this format: itself, where it has this format already; a refutation with the inputs and terms that
-- the origins give; and a saturation with named covers.
abbrev pub IsRewritingOf : Certificate → Certificate → Type 0
IsRewritingOf (first_refutation c) d = (r : Refutation) × IsUpgrade c r × (d ≡ refutation r)
IsRewritingOf (refutation r) d = d ≡ refutation r
IsRewritingOf (saturation s) d = (c : Covered) × (c.saturation ≡ s) × IsNamed c × (d ≡ covered c)
IsRewritingOf (covered c) d = d ≡ covered c

-- the text is that of the certificate in this format, under this name
pub record IsNewText (name : List ℕ) (c : Certificate) (text : List ℕ) : Type 0 where
  pub value : Certificate
  pub rewrites : IsRewritingOf c value
  pub printable : IsPrintable written_format value
  pub is : text ≡ written_text name value

-- The certificate is valid and of the problem, and the text is its own in this format; or this is what it is found to be.
abbrev pub IsRewriting : Option Problem → List ℕ → Certificate → Rewriting → Type 0
IsRewriting p name c (Text text) = IsJudgement p c Valid × IsNewText name c text
IsRewriting p name c (Refused form j) = (form ≡ form_of c) × (j ≢ Valid) × IsJudgement p c j

-- so rewritten is the certificate, under this name, for the problem of the file that is named, if one is
pub record IsRewrittenAs (files : Option (List NamedFile)) (problem root : Option (List ℕ)) (name : List ℕ) (c : Certificate) (rewriting : Rewriting) : Type 0 where
  pub against : Option Problem
  pub loads : IsProblemOf files problem root against
  pub so : IsRewriting against name c rewriting

-- so rewritten is the certificate of the file, under the name that its text has
pub record IsRewritten (files : Option (List NamedFile)) (file : List ℕ) (problem root : Option (List ℕ)) (rewriting : Rewriting) : Type 0 where
  pub certificate : Certificate
  pub held : IsCertificateOf files file certificate
  pub rewritten : IsRewrittenAs files problem root held.text.1 certificate rewriting

-- what a check finds of a certificate of this form where this is answered to its rewriting
abbrev pub found_by : Form → Result Rewriting CheckFault → Result (Form × Judgement) CheckFault
found_by form (Ok (Text text)) = Ok (form, Valid)
found_by form (Ok (Refused own j)) = Ok (own, j)
found_by form (Err why) = Err why

-- The answer is that of a check that the files give, or yields; and what a check gives of the files is that, unless it yields.
pub record IsExactRewriting (files : List NamedFile) (before now : ℕ) (file : List ℕ) (problem root : Option (List ℕ)) (answer : Result Rewriting CheckFault) : Type 0 where
  pub form : Form
  pub checked : IsExactCheck files before now file problem root (found_by form answer)
