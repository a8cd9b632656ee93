-- The certificates of a core, one after the other.
use Rattle.std.proofs.Common.{◌≡◌, ℕ, ◌+◌, List, [], ◌∷◌, ◌++◌, sym, subst as transport, add-one}
use Rattle.std.specs.Prelude.{remove}
use Rattle.inst_logic.specs.declared.clause.Problem.{Problem}
use Rattle.cert_values.specs.declared.certificate.Covered.{Covered}
use Rattle.cert_front.specs.Kinds.{covered_value}
use Rattle.core_min.specs.Cores.{HasSelection}
use Rattle.core_min.proofs.SubLists.{not_both}
use Rattle.szs_prove.specs.CoreCertificates.{AreRests, IsWithoutCore}
use Rattle.szs_prove.specs.Decisions.{IsShownBy}
use Rattle.szs_prove.specs.SubProblems.{problem_at}

-- one more saturation behind the others
pub one_more_rest : (p : Problem) (places : List ℕ) (before after : List Covered) (i : ℕ) → AreRests p places i before
    → ((c : Covered) × IsShownBy (problem_at p (remove places i)) (covered_value c) × (after ≡ before ++ c ∷ [])) → AreRests p places (i + 1) after
one_more_rest p places before after i are (c, shown, is) = transport (λ n. AreRests p places n after) (sym (add-one i)) (before, c, are, shown, is)

pub without_core : (p : Problem) (c : Covered) → HasSelection p.clauses → IsShownBy p (covered_value c) → IsWithoutCore p c
without_core p c satisfiable shown = record { satisfiable = satisfiable; not_refuted = not_both p.clauses satisfiable; saturated = shown }
