use Rattle.std.proofs.Common.{◌≡◌, ℕ, zero, suc, [], ◌∷◌, refl, lit<}
use Rattle.std.specs.Prelude.{Contains}
use Rattle.inst_logic.specs.Tree.{Tree}
use Rattle.inst_logic.specs.Substitution.{tree_vars}
use Rattle.inst_logic.specs.Derivations.{at_number}
use Rattle.inst_logic.specs.Examples.{p, constant_c, constant_bot, yes, no}
use Rattle.inst_calculus.specs.Entries.{inst}
use Rattle.inst_calculus.specs.Steps.{given}
use Rattle.inst_calculus.specs.Examples.{entry, p_always, not_p_c, p_c, tie_three, tie_four}
use Rattle.inst_calculus.proofs.ShortLists.{each_all, each_number}
use Rattle.cert_format.specs.declared.complaint.Complaint.{Complaint}
use Rattle.cert_format.specs.declared.complaint.Complaint.TheVariants.{Axiom, Member as Derived, Bot, Ground, Step as Shown, NotEmpty, Place, Input, Pair, Cover as Named}
use Rattle.cert_format.specs.Certificate.{line_clauses}
use Rattle.cert_format.specs.TermLists.{IsGroundLineOf}
use Rattle.cert_format.specs.Validity.{LinesPass, CoversAt, IsRightStep}
use Rattle.cert_format.specs.Examples.{lined_refutation, one_step, tie_entries, tie_dues, tie_covers}
use Rattle.cert_format.proofs.ExampleMembers.{instance_members, only_literal}
use Rattle.cert_format.proofs.TieDues.{tie_is_due, tie_passes}
use Rattle.cert_format.proofs.examples.certificates_with_names.Goals as goal

no_variables : Tree → Type 0
no_variables t = tree_vars t ≡ []

lines : (k : Complaint) → LinesPass lined_refutation k
unfolding no_variables
lines (Axiom n) = refl
lines (Derived n) = instance_members (one_step 2 3) n
lines Bot = refl
lines (Ground n) = λ g i. each_number (λ n x. IsGroundLineOf (p_always ∷ not_p_c ∷ []) x) lined_refutation.grounds (
  record { clause = p_always; clause_at = refl; each = refl; without_variables = each_all no_variables (constant_bot ∷ []) (refl, tt); is = refl },
  (
    record { clause = not_p_c; clause_at = refl; each = refl; without_variables = each_all no_variables [] tt; is = refl },
    (record { clause = p_always; clause_at = refl; each = refl; without_variables = each_all no_variables (constant_c ∷ []) (refl, tt); is = refl }, tt),
  ),
) n g i
lines (Shown n) = λ s i. each_number (IsRightStep (line_clauses lined_refutation.grounds) (one_step 2 3)) (one_step 2 3)
    ((record { hinted = λ e. cc; shown = (no (p constant_c), only_literal (no (p constant_c)), each_all (Contains (yes (p constant_c) ∷ [])) p_c ((0, lit< tt, refl), tt)) }), tt) n s i
lines NotEmpty = (record { clause = []; hints = given 2 ∷ given 3 ∷ [] }, refl, refl)
lines (Place n) = tt
lines (Input k) = tt
lines (Pair l r) = tt
lines (Named n) = tt

pub returns-clause-lines : goal.returns-clause-lines
returns-clause-lines c = lines

pub returns-clause-due : goal.returns-clause-due
returns-clause-due c = tie_is_due

cover_at : (n : ℕ) → CoversAt tie_entries (at_number tie_dues n) (at_number tie_covers n)
cover_at zero = tt
cover_at (suc zero) = record { left = refl; right = refl; side = refl; clause = refl; holds = (entry tie_three (inst 1 1 2 1), refl, refl) }
cover_at (suc (suc zero)) = record { left = refl; right = refl; side = refl; clause = refl; holds = (entry tie_four (inst 2 1 1 1), refl, refl) }
cover_at (suc (suc (suc n))) = tt

pub returns-clause-covers : goal.returns-clause-covers
returns-clause-covers c = λ k. tie_passes tie_covers (λ j. Unit {0}) (λ n b. cover_at n) k tt
