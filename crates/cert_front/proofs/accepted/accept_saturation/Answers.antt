use Rattle.std.proofs.Common.{◌∙◌, ap, sym, subst}
use Rattle.std.proofs.lemmas.Result.{IfOk-weaker}
use Rattle.cert_format.specs.Certificate as format
use Rattle.cert_format.specs.Printable.{CoveredFits}
use Rattle.cert_format.specs.Validity.{IsNamed}
use Rattle.cert_front.proofs.accepted.accept_saturation.Goals as goal

pub returns-clause-same : goal.returns-clause-same
returns-clause-same c = IfOk-weaker c.accept_covered.result _ _ (λ _ e. ap (λ (x : format.Covered). x.saturation) e ∙ c.in_ok-covered.ensures.same) c.accept_covered.ensures

pub returns-clause-named : goal.returns-clause-named
returns-clause-named c = IfOk-weaker c.accept_covered.result _ _ (λ _ e. subst IsNamed (sym e) c.in_ok-covered.ensures.named) c.accept_covered.ensures

pub returns-clause-fits : goal.returns-clause-fits
returns-clause-fits c = IfOk-weaker c.accept_covered.result _ _ (λ _ e. subst CoveredFits (sym e) c.covered_numbers.ensures) c.accept_covered.ensures
