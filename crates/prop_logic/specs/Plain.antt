-- The plain solver as the number of its atoms and the list of the added clauses.
use Rattle.std.specs.Prelude.{ℕ, Bool, List}
use Rattle.inst_logic.specs.declared.signed.Signed.{Signed}

pub record State : Type 0 where
  pub atoms : ℕ
  pub added : List (List (Signed ℕ))
  -- whether a call has answered Memory
  pub spent : Bool
