-- A place whose literal was read is that literal's place.
use Rattle.std.proofs.Common.{◌≡◌, ℕ, zero, suc, ◌+◌, ◌/◌, ◌%◌, cond, refl, arith}
use Rattle.std.specs.Prelude.{◌==◌}
use Rattle.cdcl_trail.specs.Packed.{literal_of}
use Rattle.cdcl_trail.specs.Watch.{slot_of}

from_rest : (b r : ℕ) → b % 2 ≡ r → b / 2 + b / 2 + cond (r == 1) 1 0 ≡ b
from_rest b zero e = omega (arith, e)
from_rest b (suc zero) e = omega (arith, e)
from_rest b (suc (suc r)) e = absurd (omega (arith, e))

pub place_again : (b : ℕ) → slot_of (literal_of b) ≡ b
place_again b = from_rest b (b % 2) refl
