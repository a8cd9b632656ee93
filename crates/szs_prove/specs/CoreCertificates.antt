-- A core with the certificates that show it.
use Rattle.std.specs.Prelude.{◌≡◌, ℕ, zero, suc, List, [], ◌∷◌, ◌++◌, length, remove}
use Rattle.inst_logic.specs.declared.clause.Problem.{Problem}
use Rattle.core_min.specs.Cores.{HasRefutation, HasSelection, IsCore}
use Rattle.cert_values.specs.declared.certificate.Covered.{Covered}
use Rattle.cert_values.specs.declared.certificate.Refutation.{Refutation}
use Rattle.cert_front.specs.Kinds.{covered_value, refutation_value}
use Rattle.szs_prove.specs.Decisions.{IsShownBy}
use Rattle.szs_prove.specs.SubProblems.{problem_at}
use Rattle.szs_prove.specs.declared.core_certificates.CoreAnswer.{CoreAnswer}
use Rattle.szs_prove.specs.declared.core_certificates.CoreAnswer.TheVariants.{Satisfiable, Core}

-- one saturation for each of the first n places, in their order: that of the clauses at the other places
abbrev pub AreRests : Problem → List ℕ → ℕ → List Covered → Type 0
AreRests p places zero rests = rests ≡ []
AreRests p places (suc n) rests =
    (before : List Covered) × (last : Covered) × AreRests p places n before × IsShownBy (problem_at p (remove places n)) (covered_value last) × (rests ≡ before ++ last ∷ [])

-- the places are those of a core, its clauses have the refutation, and without one of them the saturation of its place
pub record AreCoreCertificates (p : Problem) (places : List ℕ) (refutation : Refutation) (rests : List Covered) : Type 0 where
  pub core : IsCore p.clauses places
  pub refuted : IsShownBy (problem_at p places) (refutation_value refutation)
  pub needed : AreRests p places (length places) rests

-- the clauses are satisfiable, so no ground instances of them are refuted
pub record IsWithoutCore (p : Problem) (saturation : Covered) : Type 0 where
  pub satisfiable : HasSelection p.clauses
  pub not_refuted : ¬ HasRefutation p.clauses
  pub saturated : IsShownBy p (covered_value saturation)

abbrev pub IsCertifiedCore : Problem → CoreAnswer → Type 0
IsCertifiedCore p (Satisfiable saturation) = IsWithoutCore p saturation
IsCertifiedCore p (Core places refutation rests) = AreCoreCertificates p places refutation rests
