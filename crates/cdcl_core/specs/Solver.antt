-- The solver as its callers see it.
use Rattle.std.specs.Prelude.{ℕ, Bool, List}
use Rattle.inst_logic.specs.declared.signed.Signed.{Signed}

-- the number of atoms, the added clauses, whether memory was refused, and how often the last question restarted
pub record State : Type 0 where
  pub atoms : ℕ
  pub added : List (List (Signed ℕ))
  pub spent : Bool
  pub restarts : ℕ
