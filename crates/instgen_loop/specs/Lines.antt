-- Ground lines over a bank.
use Rattle.std.specs.Prelude.{◌≡◌, ◌++◌, ℕ, List, map, All}
use Rattle.inst_logic.specs.declared.signed.Signed.{Signed}
use Rattle.inst_logic.specs.Clauses.{TreeClause, IsCanonical}
use Rattle.inst_calculus.specs.Axioms.{with_axioms}
use Rattle.inst_calculus.specs.Unrolling as trees
use Rattle.inst_calculus.specs.Unrolling.{AreRecords}
use Rattle.term_bank.specs.Forest.{Forest, AreIds, IsClauseOf, clause_at}
use Rattle.engine_laws.specs.GroundLines.{ground_line, ground_lines}
use Rattle.global_subs.specs.declared.made.Grounded.{Grounded}
use Rattle.global_subs.specs.Unrolls.{grounded_at}
use Rattle.cert_values.specs.declared.certificate.GroundLine.{GroundLine}
use Rattle.cert_values.specs.Values.{line_of}
use Rattle.instgen_loop.specs.declared.refuted.RefutedRun.{RefutedRun}
use Rattle.instgen_loop.specs.declared.start.Given.{Given}
use Rattle.instgen_run.specs.Clauses.{entries_in}

-- the clauses and then their axioms
abbrev pub given_of : Given → List (List (Signed ℕ))
given_of g = g.inputs ++ g.axioms

-- the trees of these
abbrev pub given_trees : Forest → Given → List TreeClause
given_trees f g = map (clause_at f) (given_of g)

-- they are canonical ones of the bank
pub record HasClauses (f : Forest) (g : Given) : Type 0 where
  pub ids : All (IsClauseOf f) (given_of g)
  pub canonical : All (λ c. IsCanonical (clause_at f c)) (given_of g)

-- the clause and the terms of the line are in the bank
pub record IsLineIn (f : Forest) (l : GroundLine) : Type 0 where
  pub clause : IsClauseOf f l.clause
  pub terms : AreIds f l.terms

-- the line of the item, over the grown bank: the clause that it names under its terms
pub record IsLineOf (f g : Forest) (given : Given) (item : Grounded) (l : GroundLine) : Type 0 where
  pub same : line_of g l ≡ ground_line (given_trees f given) (grounded_at f item)
  pub ids : IsLineIn g l

-- the lines are those of the unrolled lists of the entries
pub record AreLinesOf (clauses : List TreeClause) (r : RefutedRun) (lines : List GroundLine) : Type 0 where
  pub made : List trees.Made
  pub records : AreRecords r.abstraction.bot (entries_in r.remains.bank r.remains.clauses.entries) made
  pub same : map (line_of r.remains.bank) lines ≡ ground_lines r.abstraction.bot (with_axioms clauses) made
  pub ids : All (IsLineIn r.remains.bank) lines
