-- A number whose literal was read is that literal's number.
use Rattle.std.proofs.Common.{◌≡◌, ℕ, zero, suc, ◌+◌, ◌/◌, ◌%◌, cond, refl, arith}
use Rattle.std.specs.Prelude.{◌==◌}
use Rattle.compact_lists.specs.Codes.{code_of, literal_of}

from_rest : (b r : ℕ) → b % 2 ≡ r → b / 2 + b / 2 + cond (r == 1) 1 0 ≡ b
from_rest b zero e = omega (arith, e)
from_rest b (suc zero) e = omega (arith, e)
from_rest b (suc (suc r)) e = absurd (omega (arith, e))

pub code_again : (b : ℕ) → code_of (literal_of b) ≡ b
code_again b = from_rest b (b % 2) refl
