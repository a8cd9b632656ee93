-- The numbers of two members of which one is the side's own.
use Rattle.std.specs.Prelude.{ℕ, suc}
use Rattle.unify_core.specs.declared.side.Side.{Side}
use Rattle.unify_core.specs.declared.side.Side.TheVariants.{Left, Right}

-- the numbers of the left and the right member, where `own` is the place of the side's member
abbrev pub left_number : Side → ℕ → ℕ → ℕ
left_number Left own other = suc own
left_number Right own other = suc other

abbrev pub right_number : Side → ℕ → ℕ → ℕ
right_number Left own other = suc other
right_number Right own other = suc own
