-- Clauses at places of a list.
use Rattle.std.proofs.Common.{◌≡◌, ℕ, List, sym, subst, Some}
use Rattle.std.specs.Prelude.{All, slice_get, Option, None, IfSome, option_copied}
use Rattle.std.specs.Borrow.{Bor}
use Rattle.std.proofs.lemmas.Option.{slice_get_within, get_or_from_slice_get}
use Rattle.inst_logic.specs.declared.signed.Signed.{Signed}
use Rattle.term_bank.specs.Forest.{Forest, IsClauseOf}

-- the atoms of the clause at a place are in the bank
pub clause_within : (f : Forest) (cs : List (List (Signed ℕ))) (i : ℕ) (c : List (Signed ℕ)) → All (IsClauseOf f) cs → slice_get cs i ≡ Some c → IsClauseOf f c
clause_within f cs i c within at = subst (IsClauseOf f) (get_or_from_slice_get cs i c c at) (within i c (slice_get_within cs i c at))

pub found_within : (f : Forest) (cs : List (List (Signed ℕ))) (i : ℕ) (r : Option (Bor (List (Signed ℕ)))) → All (IsClauseOf f) cs → option_copied r ≡ slice_get cs i → IfSome r (λ c. IsClauseOf f c.now)
found_within f cs i None within e = tt
found_within f cs i (Some c) within e = clause_within f cs i c.now within (sym e)
