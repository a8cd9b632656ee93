-- A derivation over the ground lines of a refuted run.
use Rattle.std.specs.Prelude.{◌≡◌, ℕ, List, [], length, map, All, Contains, IsTrue}
use Rattle.inst_logic.specs.declared.signed.Signed.{Signed}
use Rattle.inst_logic.specs.Clauses.{IsGround}
use Rattle.inst_logic.specs.Equal.{literal_eq}
use Rattle.inst_logic.specs.Lists.{distinct}
use Rattle.inst_logic.specs.Tree.{Tree}
use Rattle.inst_logic.specs.Truth.{IsRefuted}
use Rattle.inst_logic.specs.WellFormed.{is_constant}
use Rattle.prop_logic.specs.Literal.{AllAtomsBelow}
use Rattle.prop_logic.specs.Solving.{Refutes}
use Rattle.term_bank.specs.Forest.{Forest, clause_at, tree_at}
use Rattle.ground_abs.specs.Abstracts.{atoms_in, AreAtomsIn}
use Rattle.cert_values.specs.declared.certificate.GroundLine.{GroundLine}
use Rattle.cert_values.specs.Wholes.{IsWholeClause}
use Rattle.instgen_run.specs.declared.ground.Ground.{Ground}
use Rattle.instgen_loop.specs.declared.refuted.RefutedRun.{RefutedRun}
use Rattle.instgen_loop.specs.LineNumbers.{HaveLines, clauses_of}

-- the tree is the atom of a literal of a line
pub record IsOfLine (f : Forest) (lines : List GroundLine) (t : Tree) : Type 0 where
  pub clause : List (Signed ℕ)
  pub literal : Signed ℕ
  pub listed : Contains (clauses_of lines) clause
  pub among : Contains clause literal
  pub atom : tree_at f literal.atom ≡ t

-- each numbered clause is a line, and the derivation refutes these; each numbered atom is one of a line
pub record IsDerived (r : RefutedRun) (lines : List GroundLine) : Type 0 where
  pub fits : AreAtomsIn r.remains.bank r.abstraction.ids
  pub below : AllAtomsBelow (length r.abstraction.ids) r.literals
  pub have : HaveLines lines r.abstraction.ids r.literals
  pub refutes : Refutes (length r.abstraction.ids) r.literals [] [] r.derivation
  pub used : All (IsOfLine r.remains.bank lines) (atoms_in r.remains.bank r.abstraction.ids)

-- clauses of atoms without variables and without repeats, which no valuation makes true together
pub record AreRefutedLines (f : Forest) (lines : List GroundLine) : Type 0 where
  pub whole : All (IsWholeClause f) (clauses_of lines)
  pub grounded : All IsGround (map (clause_at f) (clauses_of lines))
  pub once : All (λ c. distinct literal_eq c ≡ c) (map (clause_at f) (clauses_of lines))
  pub refuted : IsRefuted (map (clause_at f) (clauses_of lines))

-- no atoms have numbers, and the solver has no clauses
pub record IsEmptyGround {S : Type 0} (g : Ground S) (atoms : ℕ) (added : List (List (Signed ℕ))) : Type 0 where
  pub constant : IsTrue (is_constant g.abstraction.bot)
  pub ids : g.abstraction.ids ≡ []
  pub notes : g.abstraction.notes ≡ []
  pub literals : g.literals ≡ []
  pub no_atoms : atoms ≡ 0
  pub none_added : added ≡ []
