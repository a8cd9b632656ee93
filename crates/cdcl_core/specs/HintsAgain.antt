-- A number whose hint was read is that hint's number.
use Rattle.std.proofs.Common.{◌≡◌, ℕ, zero, suc, ◌/◌, ◌%◌, refl, arith}
use Rattle.std.specs.Prelude.{◌==◌, if◌then◌else◌}
use Rattle.prop_logic.specs.declared.literal.Hint.TheVariants.{Added, Step as Earlier}
use Rattle.cdcl_core.specs.Hints.{code_of, hint_of}

from_rest : (b r : ℕ) → b % 2 ≡ r → code_of (if r == 0 then Added (b / 2) else Earlier (b / 2)) ≡ b
from_rest b zero e = omega (arith, e)
from_rest b (suc zero) e = omega (arith, e)
from_rest b (suc (suc r)) e = absurd (omega (arith, e))

pub code_again : (b : ℕ) → code_of (hint_of b) ≡ b
code_again b = from_rest b (b % 2) refl
