use Rattle.std.proofs.Common.{subst}
use Rattle.cert_format.specs.Validity.{IsNamed}
use Rattle.cert_values.specs.declared.certificate.Covered.{Covered}
use Rattle.cert_values.specs.Values.{covered_of}
use Rattle.cert_check.proofs.covered.CheckedCovered.cert.Goals as goal

pub returns-clause-named : goal.returns-clause-named
returns-clause-named c = subst (λ (x : Covered). IsNamed (covered_of x)) c.self.view_is c.self.invariant.1
