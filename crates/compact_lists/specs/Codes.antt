-- Literals as numbers.
use Rattle.std.specs.Prelude.{ℕ, ◌+◌, ◌/◌, ◌%◌, ◌==◌, cond}
use Rattle.inst_logic.specs.declared.signed.Signed.{Signed}

-- the number of a literal: twice its atom, and one more where it is positive
abbrev pub code_of : Signed ℕ → ℕ
code_of l = l.atom + l.atom + cond l.positive 1 0

-- the literal of a number
abbrev pub literal_of : ℕ → Signed ℕ
literal_of code = record { positive = code % 2 == 1; atom = code / 2 }
