-- What the engine's certificates show of the problem, once they are checked.
use Rattle.std.proofs.Common.{◌≡◌, ℕ, inr, refl, sym, ap, ◌∙◌, subst, map, List, Bool, true, false}
use Rattle.std.specs.Prelude.{IfOk, Result, Ok, Err, IsTrue, IsFalse}
use Rattle.inst_logic.specs.declared.clause.Problem.{Problem}
use Rattle.inst_logic.specs.Measure.{is_function_free}
use Rattle.inst_logic.specs.WellFormed.{AreFormedClauses}
use Rattle.cert_format.specs.Certificate as format
use Rattle.cert_format.specs.Certificate.{Certificate, refutation, saturation, covered, base_of}
use Rattle.cert_format.specs.Certifies.{IsOf, HasConstantOf, Certifies}
use Rattle.cert_format.specs.Formats.{written_format}
use Rattle.cert_format.specs.Printable.{CoveredFits, IsPrintable, IsPrintableProblem, NumbersFit}
use Rattle.cert_format.specs.Validity.{IsNamed, IsValid}
use Rattle.cert_values.specs.declared.certificate.Refutation.{Refutation}
use Rattle.cert_values.specs.declared.certificate.Saturation.{Saturation}
use Rattle.cert_values.specs.declared.certificate.Covered.{Covered}
use Rattle.cert_values.specs.Values.{covered_of, refutation_of, saturation_of}
use Rattle.cert_front.specs.Kinds.{covered_value, refutation_value, saturation_value}
use Rattle.instgen_run.specs.declared.event.Event.{Event}
use Rattle.instgen_loop.specs.declared.outcome.Outcome.{Outcome}
use Rattle.instgen_loop.specs.declared.outcome.Outcome.TheVariants as outcome
use Rattle.instgen_run.specs.Running.{event_in}
use Rattle.instgen_loop.specs.Outcomes.{IsOutcome, IsRefutedRun, IsSaturatedRun}
use Rattle.instgen_loop.proofs.Started.{printable_formed}
use Rattle.szs_prove.specs.declared.decision.Decision.{Decision}
use Rattle.szs_prove.specs.declared.decision.Decision.TheVariants.{Unsatisfiable, Satisfiable, OutOfBudget}
use Rattle.szs_prove.specs.Decisions.{IsDecision, IsShownBy, IsStopped, IsVerdict}

-- that valid and printable certificates of a problem certify it
abbrev pub Certify : Type 0
Certify = (p : Problem) (format : ℕ) (c : Certificate) → AreFormedClauses p.clauses → IsOf p (base_of c) → HasConstantOf p c → IsValid c → IsPrintable format c → Certifies p format c

-- that covers can be printed where the saturation without them can
abbrev pub CoversArePrintable : Type 0
CoversArePrintable = (f : ℕ) (c : format.Covered) → IsNamed c → IsPrintable f (saturation c.saturation) → CoveredFits c → IsPrintable 3 (covered c)

module _ (certify : Certify) (p : Problem) (can_print : IsPrintableProblem p) where
  refuted_by : (cert c : Refutation) (journal : List Event) → IsRefutedRun p.clauses p.names cert journal → NumbersFit (refutation_value cert) → refutation_of c ≡ refutation_of cert → IsShownBy p (refutation_value c)
  refuted_by cert c journal run numbers same = subst (λ (r : format.Refutation). IsShownBy p (refutation r)) (sym same) (record {
    certifies = certify p written_format (refutation_value cert) (printable_formed p.clauses can_print.clauses) (record { inputs = run.run.inputs; names = run.run.named; axioms = run.run.axioms })
        run.run.replays.constant run.valid (record { known = inr refl; parts = run.printable; numbers = numbers });
    replayed = record {
      constant = cert.bot;
      journal = map (event_in cert.base.bank) journal;
      state = run.state;
      replays = run.run.replays;
      members = sym run.run.members;
    };
  })

  pub always_refuted : {E : Type 0} (cert : Refutation) (journal : List Event) → IsRefutedRun p.clauses p.names cert journal → NumbersFit (refutation_value cert)
      → (r : Result Refutation E) → IfOk r (λ c. refutation_of c ≡ refutation_of cert) → IfOk r (λ c. IsShownBy p (refutation_value c))
  always_refuted cert journal run numbers (Ok c) same = refuted_by cert c journal run numbers same
  always_refuted cert journal run numbers (Err e) same = tt

  module _ (printable : CoversArePrintable) where
    satisfied_by : (cert : Saturation) (c : Covered) (journal : List Event) → IsSaturatedRun p.clauses p.names cert journal → NumbersFit (saturation_value cert)
        → (covered_of c).saturation ≡ saturation_of cert → IsNamed (covered_of c) → CoveredFits (covered_of c) → IsShownBy p (covered_value c)
    satisfied_by cert c journal run numbers same named fits =
        let of_problem : IsOf p (saturation_of cert).base = record { inputs = run.run.run.inputs; names = run.run.run.named; axioms = run.run.run.axioms } in
        let plain : IsPrintable 2 (saturation_value cert) = record { known = inr refl; parts = run.printable; numbers = numbers } in
        record {
          certifies = certify p written_format (covered_value c) (printable_formed p.clauses can_print.clauses) (subst (λ (s : format.Saturation). IsOf p s.base) (sym same) of_problem)
              tt named (printable 2 (covered_of c) named (subst (λ (s : format.Saturation). IsPrintable 2 (saturation s)) (sym same) plain) fits);
          replayed = record {
            constant = run.bot;
            journal = map (event_in cert.base.bank) journal;
            state = run.state;
            replays = run.run.run.replays;
            members = ap (λ (s : format.Saturation). s.base.members) same ∙ sym run.run.run.members;
          };
        }

    pub always_satisfied : {E : Type 0} (cert : Saturation) (journal : List Event) → IsSaturatedRun p.clauses p.names cert journal → NumbersFit (saturation_value cert)
        → (r : Result Covered E) → IfOk r (λ c. (covered_of c).saturation ≡ saturation_of cert) → IfOk r (λ c. IsNamed (covered_of c)) → IfOk r (λ c. CoveredFits (covered_of c))
        → IfOk r (λ c. IsShownBy p (covered_value c))
    always_satisfied cert journal run numbers (Ok c) same named fits = satisfied_by cert c journal run numbers same named fits
    always_satisfied cert journal run numbers (Err e) same named fits = tt

-- what an outcome of each kind says
pub refuted_run : (p : Problem) (budget : ℕ) (cert : Refutation) (journal : List Event) (o : Outcome) → IsOutcome p.clauses p.names budget o → o ≡ outcome.Refuted cert journal
    → IsRefutedRun p.clauses p.names cert journal
refuted_run p budget cert journal o h is = subst (IsOutcome p.clauses p.names budget) is h

pub saturated_run : (p : Problem) (budget : ℕ) (cert : Saturation) (journal : List Event) (o : Outcome) → IsOutcome p.clauses p.names budget o → o ≡ outcome.Saturated cert journal
    → IsSaturatedRun p.clauses p.names cert journal
saturated_run p budget cert journal o h is = subst (IsOutcome p.clauses p.names budget) is h

pub stopped_run : (p : Problem) (budget left wanted : ℕ) (cert : Saturation) (journal : List Event) (o : Outcome) → IsOutcome p.clauses p.names budget o → o ≡ outcome.OutOfBudget left wanted cert journal
    → IsStopped p budget left wanted
stopped_run p budget left wanted cert journal o h is =
    let run = subst (IsOutcome p.clauses p.names budget) is h in
    record {
      constant = run.bot;
      journal = map (event_in cert.base.bank) journal;
      state = run.state;
      members = format.selected_members (saturation_of cert);
      ends = run.ends;
    }

-- a run on function-free clauses does not end for want of budget
decided : (d : Decision) (p : Problem) (budget : ℕ) → IsDecision p budget d → IsTrue (is_function_free p.clauses) → IsVerdict d
decided (Unsatisfiable c) p budget h free = tt
decided (Satisfiable c) p budget h free = tt
decided (OutOfBudget left wanted) p budget h free = absurd (opposite (is_function_free p.clauses) free h.ends.functions)
  where
    opposite : (b : Bool) → IsTrue b → IsFalse b → ⊥
    opposite true t f = cc
    opposite false t f = cc

pub always_decided : {E : Type 0} (r : Result Decision E) (p : Problem) (budget : ℕ) → IfOk r (IsDecision p budget) → IfOk r (λ d. IsTrue (is_function_free p.clauses) → IsVerdict d)
always_decided (Ok d) p budget h = decided d p budget h
always_decided (Err e) p budget h = tt
