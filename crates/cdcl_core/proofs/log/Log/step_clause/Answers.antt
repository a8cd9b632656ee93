use Rattle.std.proofs.Common.{◌≡◌, ℕ, suc, zero, ◌-◌, ◌<◌, List, sym, ◌∙◌, arith}
use Rattle.std.specs.Prelude.{slice_get}
use Rattle.inst_logic.specs.Derivations.{at_number}
use Rattle.cdcl_core.proofs.log.Log.step_clause.Goals as goal

at_place : {X : Type 0} (xs : List X) (n : ℕ) → 0 < n → at_number xs n ≡ slice_get xs (n - 1)
at_place xs zero h = absurd (omega arith)
at_place xs (suc n) h = let one : suc n - 1 ≡ n = omega arith in rw one

pub returns : goal.returns
returns c = c.clause.ensures ∙ sym (at_place _ c.args.number (omega arith))
