-- What is decided of a problem, as the text of a certificate.
use Rattle.std.specs.Prelude.{ℕ, ◌≡◌, List}
use Rattle.inst_logic.specs.declared.clause.Problem.{Problem}
use Rattle.cert_format.specs.Certificate.{Certificate}
use Rattle.cert_format.specs.Text.{written_text}
use Rattle.szs_prove.specs.Decisions.{IsShownBy}

-- the text is that of a certificate of the problem, which comes from a run
pub record HasCertificate (p : Problem) (file text : List ℕ) : Type 0 where
  pub certificate : Certificate
  pub shown : IsShownBy p certificate
  pub is : text ≡ written_text file certificate
