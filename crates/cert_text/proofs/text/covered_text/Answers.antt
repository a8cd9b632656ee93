use Rattle.std.proofs.Common.{◌≡◌, ℕ, List, [], ◌++◌, ◌∙◌, refl, sym, subst}
use Rattle.cert_format.specs.Certificate.{covered}
use Rattle.cert_format.specs.Formats.{written_format}
use Rattle.cert_format.specs.Printable.{NumbersFit}
use Rattle.cert_format.specs.Text.{written_text}
use Rattle.cert_values.specs.declared.certificate.Covered.{Covered}
use Rattle.cert_values.specs.Values.{covered_of}
use Rattle.cert_values.specs.Wholes.{IsWholeCovered}
use Rattle.cert_text.proofs.text.covered_text.Goals as goal

-- the text that was written into nothing, of the certificate that was passed
written : (read passed : Covered) (name t0 t1 t2 : List ℕ) → read ≡ passed → t0 ≡ [] → t1 ≡ t0 ++ written_text name (covered (covered_of read)) → t2 ≡ t1 → t2 ≡ written_text name (covered (covered_of passed))
written read passed name t0 t1 t2 r e f g = g ∙ f ∙ (λ i. e i ++ written_text name (covered (covered_of (r i))))

pub covered_numbers-requires : goal.covered_numbers-requires
covered_numbers-requires c = subst IsWholeCovered (sym c.cert-cert.ensures.is) c.cert-cert.ensures.whole

pub push_covered-requires : goal.push_covered-requires
push_covered-requires c = subst IsWholeCovered (sym c.cert-cert.ensures.is) c.cert-cert.ensures.whole

pub returns-clause-text : goal.returns-clause-text
returns-clause-text c = written _ _ _ _ _ _ c.cert-cert.ensures.is c.new-pen.ensures c.in_ok-push_covered.ensures c.into_text.ensures

pub returns-clause-taken : goal.returns-clause-taken
returns-clause-taken c = λ name parts. record {
  format = written_format;
  name = c.args.name.now;
  value = covered (covered_of c.args.c.now);
  name_is = name;
  printable = record {
    known = refl;
    parts = parts;
    numbers = subst (λ (r : Covered). NumbersFit (covered (covered_of r))) c.cert-cert.ensures.is c.covered_numbers.ensures;
  };
  is = written _ _ _ _ _ _ c.cert-cert.ensures.is c.new-pen.ensures c.in_ok-push_covered.ensures c.into_text.ensures;
}
