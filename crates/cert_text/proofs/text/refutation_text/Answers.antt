use Rattle.std.proofs.Common.{◌≡◌, ℕ, List, [], ◌++◌, ◌∙◌, inr, refl, sym, subst}
use Rattle.cert_format.specs.Certificate.{refutation}
use Rattle.cert_format.specs.Formats.{written_format}
use Rattle.cert_format.specs.Printable.{NumbersFit}
use Rattle.cert_format.specs.Text.{written_text}
use Rattle.cert_values.specs.declared.certificate.Refutation.{Refutation}
use Rattle.cert_values.specs.Values.{refutation_of}
use Rattle.cert_values.specs.Wholes.{IsWholeRefutation}
use Rattle.cert_text.proofs.text.refutation_text.Goals as goal

-- the text that was written into nothing, of the certificate that was passed
written : (read passed : Refutation) (name t0 t1 t2 : List ℕ) → read ≡ passed → t0 ≡ [] → t1 ≡ t0 ++ written_text name (refutation (refutation_of read)) → t2 ≡ t1 → t2 ≡ written_text name (refutation (refutation_of passed))
written read passed name t0 t1 t2 r e f g = g ∙ f ∙ (λ i. e i ++ written_text name (refutation (refutation_of (r i))))

pub refutation_numbers-requires : goal.refutation_numbers-requires
refutation_numbers-requires c = subst IsWholeRefutation (sym c.cert-cert.ensures.is) c.cert-cert.ensures.whole

pub push_refutation-requires : goal.push_refutation-requires
push_refutation-requires c = subst IsWholeRefutation (sym c.cert-cert.ensures.is) c.cert-cert.ensures.whole

pub returns-clause-text : goal.returns-clause-text
returns-clause-text c = written _ _ _ _ _ _ c.cert-cert.ensures.is c.new-pen.ensures c.in_ok-push_refutation.ensures c.into_text.ensures

pub returns-clause-taken : goal.returns-clause-taken
returns-clause-taken c = λ name parts. record {
  format = written_format;
  name = c.args.name.now;
  value = refutation (refutation_of c.args.c.now);
  name_is = name;
  printable = record {
    known = inr refl;
    parts = parts;
    numbers = subst (λ (r : Refutation). NumbersFit (refutation (refutation_of r))) c.cert-cert.ensures.is c.refutation_numbers.ensures;
  };
  is = written _ _ _ _ _ _ c.cert-cert.ensures.is c.new-pen.ensures c.in_ok-push_refutation.ensures c.into_text.ensures;
}
