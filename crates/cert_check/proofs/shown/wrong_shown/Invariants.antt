use Rattle.std.proofs.Common.{ℕ, suc, ◌<◌}
use Rattle.cert_format.specs.Validity.{IsShownInput}
use Rattle.cert_values.specs.Values.{covered_of}
use Rattle.cert_values.specs.Wholes.{IsWholeCovered, KeepsCovered}
use Rattle.cert_check.proofs.shown.wrong_shown.Given as goal

abbrev pub invariant-loop-i : goal.invariant-loop-i
invariant-loop-i l = record {
  kept : KeepsCovered l.fn.cert l.cert;
  whole : IsWholeCovered l.cert;
  before : (k : ℕ) → k < l.i → IsShownInput (covered_of l.fn.cert) (suc k);
}
