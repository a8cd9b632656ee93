use Rattle.std.proofs.Common.{ℕ, suc, ◌<◌}
use Rattle.cert_format.specs.Validity.{IsRightPlace}
use Rattle.cert_values.specs.Values.{saturation_of}
use Rattle.cert_check.proofs.places.wrong_place.Given as goal

abbrev pub invariant-loop-i : goal.invariant-loop-i
invariant-loop-i l = (k : ℕ) → k < l.i → IsRightPlace (saturation_of l.cert) (suc k)
