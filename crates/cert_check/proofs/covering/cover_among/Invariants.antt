use Rattle.cert_format.specs.Validity.{IsRightPair}
use Rattle.cert_values.specs.Values.{covered_of, saturation_of}
use Rattle.cert_values.specs.Wholes.{IsWholeCovered}
use Rattle.cert_check.specs.DueSteps.{AreNamed, GrowsCovers, IsDueAmong}
use Rattle.cert_check.proofs.covering.cover_among.Given as goal

abbrev pub invariant-loop-j : goal.invariant-loop-j
invariant-loop-j l = record {
  kept : GrowsCovers l.fn.cert l.cert;
  whole : IsWholeCovered l.cert;
  among : IsDueAmong (saturation_of l.fn.cert.cert) l.i l.partners l.j-index (IsRightPair (saturation_of l.fn.cert.cert)) (AreNamed (covered_of l.fn.cert)) (AreNamed (covered_of l.cert));
}
