-- What the truth test of a saturation needs.
use Rattle.std.specs.Prelude.{◌≡◌, refl, true, false}
use Rattle.std.proofs.Common.{◌∙◌}
use Rattle.cert_format.specs.Certificate.{selected_members}
use Rattle.term_index.specs.State.{State, pairs_of, Fits}
use Rattle.cert_values.specs.declared.certificate.Covered.{Covered}
use Rattle.saturation_cert.specs.Truths.{AreSelected}
use Rattle.cert_values.specs.Values.{covered_of, saturation_of}
use Rattle.cert_values.specs.Wholes.{AreLight, HasPlaces, IsWholeCovered, KeepsCovered}
use Rattle.cert_check.proofs.CoverGrowth.{covered_itself, covered_trans}

-- the trees have the selected literals, one the positive ones and the other the negative
pub record IsReady (c : Covered) (positive negative : State) : Type 0 where
  pub whole : IsWholeCovered c
  pub placed : HasPlaces (saturation_of c.cert)
  pub light : AreLight (selected_members (saturation_of c.cert))
  pub positive_fits : Fits c.cert.base.bank positive
  pub negative_fits : Fits c.cert.base.bank negative
  pub positives : AreSelected c.cert true (pairs_of positive.nodes)
  pub negatives : AreSelected c.cert false (pairs_of negative.nodes)

-- the certificate is what it was, over a bank that may have grown
pub record StaysCovered (old new : Covered) : Type 0 where
  pub kept : KeepsCovered old new
  pub same : covered_of new ≡ covered_of old

pub stays_itself : (c : Covered) → StaysCovered c c
stays_itself c = record { kept = covered_itself c; same = refl }

pub stays_on : (a b c : Covered) → StaysCovered a b → StaysCovered b c → StaysCovered a c
stays_on a b c h k = record { kept = covered_trans a b c h.kept k.kept; same = k.same ∙ h.same }
