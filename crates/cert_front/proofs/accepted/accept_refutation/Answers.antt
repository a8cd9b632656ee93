use Rattle.std.proofs.Common.{◌≡◌}
use Rattle.std.proofs.lemmas.Result.{IfErr-weaker}
use Rattle.cert_format.specs.Validity.{LinesPass}
use Rattle.cert_values.specs.declared.certificate.Refutation.{Refutation}
use Rattle.cert_values.specs.Values.{refutation_of}
use Rattle.cert_front.proofs.NoComplaint.{accepted_too, only_memory}
use Rattle.cert_front.proofs.accepted.accept_refutation.Goals as goal

pub accepted_value-requires : goal.accepted_value-requires
accepted_value-requires c = IfErr-weaker c.check_refutation.result _ _ (λ e cause. only_memory (LinesPass (refutation_of c.args.cert)) e c.requires.valid cause) c.check_refutation.ensures.complaint

pub returns : goal.returns
returns c = accepted_too (λ (r : Refutation). refutation_of r ≡ refutation_of c.args.cert) c.check_refutation.result c.accepted_value.result c.accepted_value.ensures c.check_refutation.ensures.same
