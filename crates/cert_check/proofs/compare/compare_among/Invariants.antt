use Rattle.std.proofs.Common.{◌≤◌, length}
use Rattle.cert_format.specs.Validity.{IsProperPair}
use Rattle.cert_values.specs.Values.{covered_of, saturation_of}
use Rattle.cert_values.specs.Wholes.{IsWholeCovered, KeepsCovered}
use Rattle.cert_check.specs.DueSteps.{AreCompared, IsDueAmong}
use Rattle.cert_check.proofs.compare.compare_among.Given as goal

abbrev pub invariant-loop-j : goal.invariant-loop-j
invariant-loop-j l = record {
  kept : KeepsCovered l.fn.cert l.cert;
  whole : IsWholeCovered l.cert;
  counted : l.progress.count ≤ length l.cert.covers;
  among : IsDueAmong (saturation_of l.fn.cert.cert) l.i l.partners l.j-index (IsProperPair (saturation_of l.fn.cert.cert)) (AreCompared (covered_of l.fn.cert) l.fn.progress) (AreCompared (covered_of l.fn.cert) l.progress);
}
