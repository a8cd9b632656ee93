use Rattle.std.proofs.Common.{ℕ, suc, ◌<◌, List}
use Rattle.cert_format.specs.Dues.{Due}
use Rattle.cert_format.specs.Validity.{IsRightPair}
use Rattle.cert_values.specs.Values.{covered_of, saturation_of}
use Rattle.cert_values.specs.Wholes.{IsWholeCovered}
use Rattle.cert_check.specs.DueSteps.{AreNamed, AreSeen, GrowsCovers}
use Rattle.cert_check.proofs.covering.cover_rows.Given as goal

abbrev pub invariant-loop-i : goal.invariant-loop-i
invariant-loop-i l = record {
  kept : GrowsCovers l.fn.cert l.cert;
  whole : IsWholeCovered l.cert;
  before : (k : ℕ) → k < l.i → (r : ℕ) → IsRightPair (saturation_of l.fn.cert.cert) (suc k) r;
  due : (ds : List Due) × AreSeen (saturation_of l.fn.cert.cert) l.i ds × AreNamed (covered_of l.cert) ds;
}
