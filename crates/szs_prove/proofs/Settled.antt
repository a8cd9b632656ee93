-- What a run on a problem that is always decided leaves.
use Rattle.std.proofs.Common.{◌≡◌, ℕ, List, subst as transport}
use Rattle.std.specs.Prelude.{IfOk, Result, Ok, Err}
use Rattle.inst_logic.specs.declared.clause.Problem.{Problem}
use Rattle.cert_format.specs.Certificate.{line_clauses, selected_members}
use Rattle.cert_format.specs.Text.{written_text}
use Rattle.cert_values.specs.declared.certificate.Refutation.{Refutation}
use Rattle.cert_values.specs.declared.certificate.Covered.{Covered}
use Rattle.cert_values.specs.Values.{covered_of, refutation_of}
use Rattle.cert_front.specs.Kinds.{covered_value, refutation_value}
use Rattle.core_min.specs.Cores.{HasRefutation, HasSelection}
use Rattle.szs_prove.specs.Decisions.{IsDecision, IsShownBy}
use Rattle.szs_prove.specs.Proving.{HasCertificate}
use Rattle.szs_prove.specs.declared.decision.Decision.{Decision}
use Rattle.szs_prove.specs.declared.decision.Decision.TheVariants.{Unsatisfiable, Satisfiable}
use Rattle.szs_prove.proofs.Proved.{refuted_text, satisfied_text}

module _ (p : Problem) (d : Decision) (decided : IsDecision p 0 d) where
  -- the text of what was decided, where there is one
  module _ (file : List ℕ) where
    pub refuted_texts : {E : Type 0} (c : Refutation) → d ≡ Unsatisfiable c → (r : Result (List ℕ) E) → IfOk r (λ text. text ≡ written_text file (refutation_value c)) → IfOk r (HasCertificate p file)
    refuted_texts c is (Ok text) e = refuted_text p 0 file text d decided c is e
    refuted_texts c is (Err e) h = tt

    pub satisfied_texts : {E : Type 0} (c : Covered) → d ≡ Satisfiable c → (r : Result (List ℕ) E) → IfOk r (λ text. text ≡ written_text file (covered_value c)) → IfOk r (HasCertificate p file)
    satisfied_texts c is (Ok text) e = satisfied_text p 0 file text d decided c is e
    satisfied_texts c is (Err e) h = tt

  pub refuted_clauses : (c : Refutation) → d ≡ Unsatisfiable c → HasRefutation p.clauses
  refuted_clauses c is =
      let shown : IsShownBy p (refutation_value c) = transport (IsDecision p 0) is decided in
      record { grounds = line_clauses (refutation_of c).grounds; instances = shown.certifies.shows.instances; refuted = shown.certifies.shows.refuted }

  pub satisfied_clauses : (c : Covered) → d ≡ Satisfiable c → HasSelection p.clauses
  satisfied_clauses c is =
      let shown : IsShownBy p (covered_value c) = transport (IsDecision p 0) is decided in
      record { members = selected_members (covered_of c).saturation; makes = shown.certifies.shows }
