-- Why nothing is found of a certificate, where the files were read before.
use Rattle.std.proofs.Common.{ℕ, ◌≤◌, List, Option, None, Some, Result, IfErr, subst, arith}
use Rattle.std.proofs.lemmas.Result.{IfErr-weaker}
use Rattle.outside_io.specs.Causes.{Rose}
use Rattle.outside_io.specs.Told.{Follows, Told as Telling}
use Rattle.outside_io.specs.declared.library.NamedFile.{NamedFile}
use Rattle.cert_format.specs.Certificate.{Certificate}
use Rattle.tptp_load.specs.Problems.{IsLoadCause, Refuses, Told}
use Rattle.tptp_load.specs.declared.error.LoadError.{LoadError}
use Rattle.tptp_load.specs.declared.error.LoadError.TheVariants as load
use Rattle.cert_front.specs.Certificates.{IsCertificateOf}
use Rattle.cert_front.specs.Checks.{IsCheckFault, IsProblemFault, IsUnjudged}
use Rattle.cert_front.specs.declared.check.CheckFault.{CheckFault}
use Rattle.cert_front.specs.declared.check.CheckFault.TheVariants.{Cert, Problem as ProblemFault, Memory}

rose_before : (a b now : ℕ) → a ≤ b → Rose b now → Rose a now
rose_before a b now le h = omega (arith, le, h)

module _ (old middle : Telling) (follows : Follows old middle) (now : ℕ) where
  refused_before : (file : List ℕ) (root : Option (List ℕ)) (e : LoadError) → Told middle.files (λ told. Refuses told file root e) → Told old.files (λ told. Refuses told file root e)
  refused_before file root e h = subst (λ (fs : Option (List NamedFile)). Told fs (λ told. Refuses told file root e)) follows.files h

  cause_before : (file : List ℕ) (root : Option (List ℕ)) (e : LoadError) → IsLoadCause middle.files middle.faults now file root e → IsLoadCause old.files old.faults now file root e
  cause_before file root load.ReadFault h = rose_before old.faults middle.faults now follows.later h
  cause_before file root load.Memory h = tt
  cause_before file root (load.Text at f) h = (h.0, refused_before file root (load.Text at f) h.1)
  cause_before file root (load.Absent name) h = refused_before file root (load.Absent name) h
  cause_before file root (load.NotSelected at name) h = refused_before file root (load.NotSelected at name) h
  cause_before file root (load.IncludeDepth at) h = refused_before file root (load.IncludeDepth at) h
  cause_before file root load.TooLong h = refused_before file root load.TooLong h

  problem_before : (problem root : Option (List ℕ)) (e : LoadError) → IsProblemFault middle.files middle.faults now problem root e → IsProblemFault old.files old.faults now problem root e
  problem_before None root e h = absurd h
  problem_before (Some file) root e h = cause_before file root e h

  fault_before : (name : List ℕ) (problem root : Option (List ℕ)) (c : Certificate) → IsCertificateOf old.files name c → (why : CheckFault) → IsUnjudged middle.files middle.faults now problem root why
      → IsCheckFault old.files old.faults now name problem root why
  fault_before name problem root c held (Cert f) h = absurd h
  fault_before name problem root c held (ProblemFault e) h = ((c, held), h.0, problem_before problem root e h.1)
  fault_before name problem root c held Memory h = tt

  pub unjudged : {A : Type 0} (name : List ℕ) (problem root : Option (List ℕ)) (c : Certificate) → IsCertificateOf old.files name c → (r : Result A CheckFault)
      → IfErr r (IsUnjudged middle.files middle.faults now problem root) → IfErr r (IsCheckFault old.files old.faults now name problem root)
  unjudged name problem root c held r h = IfErr-weaker r _ _ (λ why k. fault_before name problem root c held why k) h
