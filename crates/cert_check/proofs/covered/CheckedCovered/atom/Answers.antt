use Rattle.std.proofs.Common.{refl, ap, sym, subst, ◌∙◌}
use Rattle.cert_format.specs.Validity.{IsNamed}
use Rattle.cert_values.specs.Values.{covered_of}
use Rattle.cert_values.proofs.Kept.{covered_same, covered_whole}
use Rattle.cert_check.proofs.Saturations.{base_grown, keeps_grown, keeps_saturation}
use Rattle.cert_check.proofs.covered.CheckedCovered.atom.Goals as goal

pub invariant_of-self : goal.invariant_of-self
invariant_of-self c =
    let cert = c.self.inside.cert in
    let g = c.atom.new.self in
    let grown = record cert.cert { base = record cert.cert.base { bank = g } } in
    let kept = keeps_saturation cert.cert (record cert.cert.base { bank = g }) (keeps_grown cert.cert.base g c.atom.ensures.extends) in
    let whole = base_grown cert.cert.base g c.atom.ensures.extends (c.atom.ensures.formed c.self.invariant.0.cert.bank c.requires) c.self.invariant.0.cert in (
      covered_whole cert grown c.self.invariant.0 kept whole,
      subst IsNamed (sym (covered_same cert (record cert { cert = grown }) c.self.invariant.0 (record { cert = kept; rest = refl }))) c.self.invariant.1,
    )

pub returns-clause-same : goal.returns-clause-same
returns-clause-same c =
    let cert = c.self.inside.cert in
    let g = c.atom.new.self in
    let grown = record cert.cert { base = record cert.cert.base { bank = g } } in
    let kept = keeps_saturation cert.cert (record cert.cert.base { bank = g }) (keeps_grown cert.cert.base g c.atom.ensures.extends) in
    covered_same cert (record cert { cert = grown }) c.self.invariant.0 (record { cert = kept; rest = refl }) ∙ ap covered_of c.self.view_is
