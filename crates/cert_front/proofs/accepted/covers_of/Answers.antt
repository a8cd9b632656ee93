use Rattle.std.proofs.Common.{◌≡◌}
use Rattle.std.proofs.lemmas.Result.{IfErr-weaker}
use Rattle.cert_format.specs.Validity.{IsNamed, SaturationPasses}
use Rattle.cert_values.specs.declared.certificate.Covered.{Covered}
use Rattle.cert_values.specs.Values.{covered_of, saturation_of}
use Rattle.cert_values.specs.Wholes.{IsWholeCovered}
use Rattle.cert_front.proofs.NoComplaint.{accepted_too, only_memory}
use Rattle.cert_front.proofs.accepted.covers_of.Goals as goal

pub accepted_value-requires : goal.accepted_value-requires
accepted_value-requires c = IfErr-weaker c.cover.result _ _ (λ e cause. only_memory (SaturationPasses (saturation_of c.args.cert)) e c.requires.valid cause) c.cover.ensures.complaint

pub returns-clause-whole : goal.returns-clause-whole
returns-clause-whole c = accepted_too IsWholeCovered c.cover.result c.accepted_value.result c.accepted_value.ensures c.cover.ensures.whole

pub returns-clause-named : goal.returns-clause-named
returns-clause-named c = accepted_too (λ (k : Covered). IsNamed (covered_of k)) c.cover.result c.accepted_value.result c.accepted_value.ensures c.cover.ensures.named

pub returns-clause-same : goal.returns-clause-same
returns-clause-same c = accepted_too (λ (k : Covered). saturation_of k.cert ≡ saturation_of c.args.cert) c.cover.result c.accepted_value.result c.accepted_value.ensures c.cover.ensures.same
