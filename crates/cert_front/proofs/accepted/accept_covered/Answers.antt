use Rattle.std.proofs.Common.{◌≡◌}
use Rattle.std.proofs.lemmas.Result.{IfErr-weaker}
use Rattle.cert_format.specs.Validity.{CoversPass}
use Rattle.cert_values.specs.declared.certificate.Covered.{Covered}
use Rattle.cert_values.specs.Values.{covered_of}
use Rattle.cert_front.proofs.NoComplaint.{accepted_too, only_memory}
use Rattle.cert_front.proofs.accepted.accept_covered.Goals as goal

pub accepted_value-requires : goal.accepted_value-requires
accepted_value-requires c = IfErr-weaker c.check_covered.result _ _ (λ e cause. only_memory (CoversPass (covered_of c.args.cert)) e c.requires.named cause) c.check_covered.ensures.complaint

pub returns : goal.returns
returns c = accepted_too (λ (k : Covered). covered_of k ≡ covered_of c.args.cert) c.check_covered.result c.accepted_value.result c.accepted_value.ensures c.check_covered.ensures.same
