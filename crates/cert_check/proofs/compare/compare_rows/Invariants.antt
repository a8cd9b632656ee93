use Rattle.std.proofs.Common.{ℕ, suc, ◌<◌, ◌≤◌, List, length}
use Rattle.cert_format.specs.Dues.{Due}
use Rattle.cert_format.specs.Validity.{IsProperPair}
use Rattle.cert_values.specs.Values.{covered_of, saturation_of}
use Rattle.cert_values.specs.Wholes.{IsWholeCovered, KeepsCovered}
use Rattle.cert_check.specs.DueSteps.{AreCompared, AreSeen}
use Rattle.cert_check.proofs.compare.compare_rows.Given as goal

abbrev pub invariant-loop-i : goal.invariant-loop-i
invariant-loop-i l = record {
  kept : KeepsCovered l.fn.cert l.cert;
  whole : IsWholeCovered l.cert;
  counted : l.progress.count ≤ length l.cert.covers;
  before : (k : ℕ) → k < l.i → (r : ℕ) → IsProperPair (saturation_of l.fn.cert.cert) (suc k) r;
  due : (ds : List Due) × AreSeen (saturation_of l.fn.cert.cert) l.i ds × AreCompared (covered_of l.fn.cert) l.progress ds;
}
