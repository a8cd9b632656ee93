-- Hints as numbers.
use Rattle.std.specs.Prelude.{ℕ, ◌+◌, ◌/◌, ◌%◌, ◌==◌, if◌then◌else◌}
use Rattle.prop_logic.specs.declared.literal.Hint.{Hint}
use Rattle.prop_logic.specs.declared.literal.Hint.TheVariants.{Added, Step as Earlier}

-- the number of a hint: twice its own, and one more for a step
abbrev pub code_of : Hint → ℕ
code_of (Added n) = n + n
code_of (Earlier n) = n + n + 1

-- an even number names an added clause, an odd one a step
abbrev pub hint_of : ℕ → Hint
hint_of code = if code % 2 == 0 then Added (code / 2) else Earlier (code / 2)
