-- What the decision of a chain is, and what is known of its problem.
use Rattle.std.proofs.Common.{◌≡◌, ℕ, ◌^◌, ◌<◌, List, length, sym, ap, ◌∙◌, subst}
use Rattle.std.specs.Prelude.{All, IsTrue}
use Rattle.inst_logic.specs.declared.clause.Problem.{Problem}
use Rattle.inst_logic.specs.Clauses.{TreeClause}
use Rattle.inst_logic.specs.Measure.{is_function_free}
use Rattle.inst_logic.specs.Printing.{is_readable_name}
use Rattle.cert_format.specs.Printable.{IsPrintableClause, IsPrintableProblem}
use Rattle.cert_values.specs.declared.certificate.Refutation.{Refutation}
use Rattle.cert_values.specs.Values.{refutation_of}
use Rattle.szs_prove.specs.declared.decision.Decision.{Decision}
use Rattle.szs_prove.specs.declared.decision.Decision.TheVariants.{Unsatisfiable}
use Rattle.szs_prove.specs.Decisions.{IsDecision}
use Rattle.szs_prove.specs.declared.sizes.Size.{Size}
use Rattle.szs_prove.specs.Chains.{chain_clauses, HasNoModel}
use Rattle.szs_prove.specs.Sizes.{size_of, AreRefutedIn, IsRefutedIn}
use Rattle.szs_prove.proofs.ChainClauses.{length_chain, chain_printable, chain_function_free}
use Rattle.szs_prove.proofs.ChainModels.{chain_has_no_model}

-- ---- the problem

pub printable_problem : (n : ℕ) (cs : List TreeClause) (names : List (List ℕ)) → n < 2 ^ 64 → cs ≡ chain_clauses n → length names ≡ length cs
    → All (λ name. IsTrue (is_readable_name name)) names → IsPrintableProblem (record { clauses = cs; names = names })
printable_problem n cs names h e named readable = record { clauses = subst (All IsPrintableClause) (sym e) (chain_printable n h); named = named; readable = readable }

pub clauses_function_free : (n : ℕ) (cs : List TreeClause) → cs ≡ chain_clauses n → IsTrue (is_function_free cs)
clauses_function_free n cs e = subst (λ ds. IsTrue (is_function_free ds)) (sym e) (chain_function_free n)

pub clauses_have_no_model : (n : ℕ) (cs : List TreeClause) → 0 < n → cs ≡ chain_clauses n → HasNoModel cs
clauses_have_no_model n cs h e = subst HasNoModel (sym e) (chain_has_no_model n h)

-- ---- the decision

pub refuted_in : (p : Problem) (d : Decision) (r : Refutation) (size : Size) → IsDecision p 0 d → d ≡ Unsatisfiable r → size ≡ size_of (refutation_of r)
    → AreRefutedIn p.clauses size
refuted_in p d r size h is e =
    let k = subst (IsDecision p 0) is h in
    record { refutation = refutation_of r; valid = k.certifies.valid; inputs = k.certifies.of_problem.inputs; measured = e }

-- ---- the size

pub refuted_chain : (n : ℕ) (cs : List TreeClause) (size : Size) → 0 < n → cs ≡ chain_clauses n → AreRefutedIn cs size → IsRefutedIn n size
refuted_chain n cs size h e k = record {
  clauses = ap (λ (s : Size). s.clauses) k.measured ∙ ap length k.inputs ∙ ap length e ∙ length_chain n h;
  refuted = subst (λ ds. AreRefutedIn ds size) e k;
}
