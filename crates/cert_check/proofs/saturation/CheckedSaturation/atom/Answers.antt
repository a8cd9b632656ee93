use Rattle.std.proofs.Common.{ap, sym, subst, ◌∙◌}
use Rattle.cert_format.specs.Validity.{IsValidSaturation}
use Rattle.cert_values.specs.Values.{saturation_of}
use Rattle.cert_check.proofs.Saturations.{base_grown, bank_same}
use Rattle.cert_check.proofs.saturation.CheckedSaturation.atom.Goals as goal

pub invariant_of-self : goal.invariant_of-self
invariant_of-self c =
    let cert = c.self.inside.cert in (
      base_grown cert.base c.atom.new.self c.atom.ensures.extends (c.atom.ensures.formed c.self.invariant.0.bank c.requires) c.self.invariant.0,
      subst IsValidSaturation (sym (bank_same cert c.atom.new.self c.self.invariant.0 c.atom.ensures.extends)) c.self.invariant.1,
    )

pub returns-clause-same : goal.returns-clause-same
returns-clause-same c = bank_same c.self.inside.cert c.atom.new.self c.self.invariant.0 c.atom.ensures.extends ∙ ap saturation_of c.self.view_is
