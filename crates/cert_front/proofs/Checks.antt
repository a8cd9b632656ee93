-- What files that are told say of a certificate and a problem is one thing, and each answer to a check is that or yields.
use Rattle.std.proofs.Common.{◌≡◌, ℕ, List, Option, Some, None, Result, Ok, Err, IfSome, IfOk, IfErr, ◌⊎◌, inl, inr, refl, sym, ap, ap₂, subst, ◌∙◌}
use Rattle.outside_io.specs.declared.library.NamedFile.{NamedFile}
use Rattle.inst_logic.specs.declared.clause.Problem.{Problem}
use Rattle.cert_format.specs.Certificate.{Certificate}
use Rattle.tptp_load.specs.Problems.{IsLoadCause, Loads, Refuses}
use Rattle.tptp_load.specs.declared.error.LoadError.{LoadError}
use Rattle.tptp_load.specs.declared.error.LoadError.TheVariants as load
use Rattle.cert_front.specs.Judgements.{IsJudgement}
use Rattle.cert_front.specs.declared.judgement.Judgement.{Judgement}
use Rattle.cert_front.specs.declared.words.Form.{Form}
use Rattle.cert_front.specs.Checks.{form_of, IsCheckFault, IsExactCheck, IsFound, IsJudged, IsProblemFault, IsProblemOf, Refuse, Yields}
use Rattle.cert_front.specs.declared.check.CheckFault.{CheckFault}
use Rattle.cert_front.specs.declared.check.CheckFault.TheVariants.{Cert, Problem as ProblemFault, Memory}
use Rattle.cert_front.specs.declared.fault.CertFault.{CertFault}
use Rattle.cert_front.specs.declared.fault.CertFault.TheVariants as cert
use Rattle.cert_front.proofs.Certificates.{TextsAreOne, not_barred, one_bar, one_certificate}

-- ---- one thing

-- that a file gives one problem, or is refused for one reason, and not both
pub record LoadingsAreOne : Type 0 where
  pub problems : (files : List NamedFile) (name : List ℕ) (root : Option (List ℕ)) (p q : Problem) → Loads files name root p → Loads files name root q → p ≡ q
  pub refusals : (files : List NamedFile) (name : List ℕ) (root : Option (List ℕ)) (e f : LoadError) → Refuses files name root e → Refuses files name root f → e ≡ f
  pub apart : (files : List NamedFile) (name : List ℕ) (root : Option (List ℕ)) (p : Problem) (e : LoadError) → Loads files name root p → Refuses files name root e → ⊥

-- that a certificate has one judgement for a problem
abbrev pub JudgementsAreOne : Type 0
JudgementsAreOne = (p : Option Problem) (c : Certificate) (i j : Judgement) → IsJudgement p c i → IsJudgement p c j → i ≡ j

module _ (texts : TextsAreOne) (loadings : LoadingsAreOne) (judgements : JudgementsAreOne) (files : List NamedFile) where
  one_problem : (problem root : Option (List ℕ)) (p q : Option Problem) → IsProblemOf (Some files) problem root p → IsProblemOf (Some files) problem root q → p ≡ q
  one_problem None root None None h k = refl
  one_problem None root p (Some q) h k = absurd k
  one_problem None root (Some p) q h k = absurd h
  one_problem (Some file) root None q h k = absurd h
  one_problem (Some file) root p None h k = absurd k
  one_problem (Some file) root (Some p) (Some q) h k = ap Some (loadings.problems files file root p q h k)

  not_refused : (problem root : Option (List ℕ)) (p : Option Problem) (e : LoadError) → IsProblemOf (Some files) problem root p → Refuse files problem root e → ⊥
  not_refused None root p e h k = k
  not_refused (Some file) root None e h k = h
  not_refused (Some file) root (Some p) e h k = loadings.apart files file root p e h k

  one_refusal : (problem root : Option (List ℕ)) (e f : LoadError) → Refuse files problem root e → Refuse files problem root f → e ≡ f
  one_refusal None root e f h k = absurd h
  one_refusal (Some file) root e f h k = loadings.refusals files file root e f h k

  module _ (name : List ℕ) (problem root : Option (List ℕ)) where
    one_judged : (a b : Form × Judgement) → IsJudged (Some files) name problem root a → IsJudged (Some files) name problem root b → a ≡ b
    one_judged a b h k =
        let certificates = one_certificate texts files name k.certificate h.certificate k.held h.held in
        let problems = one_problem problem root k.judged.against h.judged.against k.judged.loads h.judged.loads in
        let same = subst (λ (c : Certificate). IsJudgement k.judged.against c b.1) certificates k.judged.judgement in
        let other = subst (λ (p : Option Problem). IsJudgement p h.certificate b.1) problems same in
        let form = h.judged.form ∙ ap form_of (sym certificates) ∙ sym k.judged.form in
        ap₂ (λ (f : Form) (j : Judgement). (f, j)) form (judgements h.judged.against h.certificate a.1 b.1 h.judged.judgement other)

    pub one_found : (a b : Result (Form × Judgement) CheckFault) → IsFound files name problem root a → IsFound files name problem root b → a ≡ b
    one_found (Ok a) (Ok b) h k = ap Ok (one_judged a b h k)
    one_found (Ok a) (Err (Cert f)) h k = absurd (not_barred texts files name h.certificate f h.held k)
    one_found (Ok a) (Err (ProblemFault f)) h k = absurd (not_refused problem root h.judged.against f h.judged.loads k.1)
    one_found (Err (Cert e)) (Ok b) h k = absurd (not_barred texts files name k.certificate e k.held h)
    one_found (Err (Cert e)) (Err (Cert f)) h k = ap (λ (x : CertFault). Err (Cert x)) (one_bar texts files name e f h k)
    one_found (Err (Cert e)) (Err (ProblemFault f)) h k = absurd (not_barred texts files name k.0.0 e k.0.1 h)
    one_found (Err (ProblemFault e)) (Ok b) h k = absurd (not_refused problem root k.judged.against e k.judged.loads h.1)
    one_found (Err (ProblemFault e)) (Err (Cert f)) h k = absurd (not_barred texts files name h.0.0 f h.0.1 k)
    one_found (Err (ProblemFault e)) (Err (ProblemFault f)) h k = ap (λ (x : LoadError). Err (ProblemFault x)) (one_refusal problem root e f h.1 k.1)
    one_found a (Err Memory) h k = absurd k
    one_found (Err Memory) b h k = absurd h

-- ---- each answer

module _ (files : List NamedFile) (before now : ℕ) (name : List ℕ) (problem root : Option (List ℕ)) where
  abbrev IsDue : Result (Form × Judgement) CheckFault → Type 0
  IsDue a = IsFound files name problem root a ⊎ Yields before now a

  cert_due : (f : CertFault) → IsCheckFault (Some files) before now name problem root (Cert f) → IsDue (Err (Cert f))
  cert_due cert.Absent h = inl h.1
  cert_due cert.TooLong h = inl h.1
  cert_due cert.ReadFault h = inr (refl, h.1)
  cert_due (cert.Syntax line) h = inl h.1
  cert_due (cert.Version word) h = inl h.1
  cert_due cert.NoSaturation h = absurd h.1
  cert_due cert.Memory h = absurd (h.0 refl)

  refused_due : (file : List ℕ) (e : LoadError) → problem ≡ Some file → IsCheckFault (Some files) before now name problem root (ProblemFault e)
      → IsLoadCause (Some files) before now file root e → IsDue (Err (ProblemFault e))
  refused_due file (load.Text f t) is h k = inl (h.0, subst (λ (p : Option (List ℕ)). Refuse files p root (load.Text f t)) (sym is) k.1)
  refused_due file (load.Absent w) is h k = inl (h.0, subst (λ (p : Option (List ℕ)). Refuse files p root (load.Absent w)) (sym is) k)
  refused_due file (load.NotSelected f w) is h k = inl (h.0, subst (λ (p : Option (List ℕ)). Refuse files p root (load.NotSelected f w)) (sym is) k)
  refused_due file (load.IncludeDepth f) is h k = inl (h.0, subst (λ (p : Option (List ℕ)). Refuse files p root (load.IncludeDepth f)) (sym is) k)
  refused_due file load.TooLong is h k = inl (h.0, subst (λ (p : Option (List ℕ)). Refuse files p root load.TooLong) (sym is) k)
  refused_due file load.ReadFault is h k = inr (refl, k)
  refused_due file load.Memory is h k = absurd (h.1 refl)

  problem_due : (p : Option (List ℕ)) (e : LoadError) → problem ≡ p → IsCheckFault (Some files) before now name problem root (ProblemFault e)
      → IsProblemFault (Some files) before now p root e → IsDue (Err (ProblemFault e))
  problem_due None e is h k = absurd k
  problem_due (Some file) e is h k = refused_due file e is h k

  due : (a : Result (Form × Judgement) CheckFault) → IfOk a (IsJudged (Some files) name problem root) → IfErr a (IsCheckFault (Some files) before now name problem root) → IsDue a
  due (Ok found) j r = inl j
  due (Err (Cert f)) j r = cert_due f r
  due (Err (ProblemFault e)) j r = problem_due problem e refl r r.2
  due (Err Memory) j r = inr tt

-- that the files say one thing
abbrev pub ChecksAreOne : Type 0
ChecksAreOne = (files : List NamedFile) (name : List ℕ) (problem root : Option (List ℕ)) (a b : Result (Form × Judgement) CheckFault)
    → IsFound files name problem root a → IsFound files name problem root b → a ≡ b

pub exact : ChecksAreOne → (files : Option (List NamedFile)) (before now : ℕ) (name : List ℕ) (problem root : Option (List ℕ)) (a : Result (Form × Judgement) CheckFault)
    → IfOk a (IsJudged files name problem root) → IfErr a (IsCheckFault files before now name problem root)
    → IfSome files (λ told. IsExactCheck told before now name problem root a)
exact once None before now name problem root a j r = tt
exact once (Some files) before now name problem root a j r =
    let cause = due files before now name problem root a j r in
    record {
      cause = cause;
      each = λ b h. elim cause [ inl found ↦ inl (once files name problem root a b found h) | inr yields ↦ inr yields ];
    }
