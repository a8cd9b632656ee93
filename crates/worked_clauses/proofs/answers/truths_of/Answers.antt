use Rattle.std.proofs.Common.{subst, sym}
use Rattle.cert_format.specs.declared.complaint.Complaint.TheVariants.{Place}
use Rattle.cert_values.specs.declared.certificate.Saturation.{Saturation}
use Rattle.cert_values.specs.Values.{saturation_of}
use Rattle.cert_values.specs.Wholes.{HasPlaces}
use Rattle.worked_clauses.proofs.answers.truths_of.Goals as goal

pub is_light-requires-clause-placed : goal.is_light-requires-clause-placed
is_light-requires-clause-placed c = subst (λ (x : Saturation). HasPlaces (saturation_of x)) (sym c.cert-cert.ensures.is) (λ n. c.cert-cert.ensures.valid (Place n))

pub truth-requires-clause-placed : goal.truth-requires-clause-placed
truth-requires-clause-placed c = subst (λ (x : Saturation). HasPlaces (saturation_of x)) (sym c.cert-cert.ensures.is) (λ n. c.cert-cert.ensures.valid (Place n))

pub truth_by_rows-requires-clause-placed : goal.truth_by_rows-requires-clause-placed
truth_by_rows-requires-clause-placed c = subst (λ (x : Saturation). HasPlaces (saturation_of x)) (sym c.cert-cert.ensures.is) (λ n. c.cert-cert.ensures.valid (Place n))
