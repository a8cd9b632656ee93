-- The certificates of a problem, and what they show.
use Rattle.std.specs.Prelude.{◌≡◌, ℕ, List, All, Any}
use Rattle.inst_logic.specs.declared.clause.Problem.{Problem}
use Rattle.inst_logic.specs.declared.symbol.Sym.{Sym}
use Rattle.inst_logic.specs.Clauses.{TreeClause, IsGround, IsInstance}
use Rattle.inst_logic.specs.Truth.{IsRefuted}
use Rattle.inst_calculus.specs.Axioms.{equality_axioms, with_axioms}
use Rattle.inst_calculus.specs.Abstraction.{IsBot}
use Rattle.inst_calculus.specs.Models.{Makes}
use Rattle.cert_format.specs.Certificate.{Base, line_clauses, Saturation, Certificate, first_refutation, refutation, saturation, covered, base_of, selected_members}
use Rattle.cert_format.specs.Validity.{IsValid}
use Rattle.cert_format.specs.Printable.{IsPrintable}

-- its inputs and names are the problem's, and its axioms those of the problem's clauses
pub record IsOf (p : Problem) (b : Base) : Type 0 where
  pub inputs : b.inputs ≡ p.clauses
  pub names : b.names ≡ p.names
  pub axioms : b.axioms ≡ equality_axioms p.clauses

-- where the certificate has a constant, it is the problem's own
abbrev pub HasConstantOf : Problem → Certificate → Type 0
HasConstantOf p (first_refutation r) = IsBot p.clauses r.bot
HasConstantOf p (refutation r) = IsBot p.clauses r.bot
HasConstantOf p (saturation s) = Unit {0}
HasConstantOf p (covered c) = Unit {0}

-- the constant is the problem's own, the ground clauses are ground instances of the clauses and axioms, and no valuation
-- makes them all true
pub record RefutesProblem (p : Problem) (bot : Sym) (grounds : List TreeClause) : Type 0 where
  pub is_bot : IsBot p.clauses bot
  pub instances : All (λ g. IsGround g × Any (IsInstance g) (with_axioms p.clauses)) grounds
  pub refuted : IsRefuted grounds

-- the truth test over the selected literals makes every ground instance of the clauses and axioms true
abbrev pub SatisfiesProblem : Problem → Saturation → Type 0
SatisfiesProblem p s = All (Makes (selected_members s)) (with_axioms p.clauses)

abbrev pub Shows : Problem → Certificate → Type 0
Shows p (first_refutation r) = RefutesProblem p r.bot r.grounds
Shows p (refutation r) = RefutesProblem p r.bot (line_clauses r.grounds)
Shows p (saturation s) = SatisfiesProblem p s
Shows p (covered c) = SatisfiesProblem p c.saturation

-- a valid certificate of the problem, printable in the format, which shows what its status says
pub record Certifies (p : Problem) (format : ℕ) (c : Certificate) : Type 0 where
  pub of_problem : IsOf p (base_of c)
  pub valid : IsValid c
  pub printable : IsPrintable format c
  pub shows : Shows p c
