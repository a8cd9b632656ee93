-- Clauses that are read again as they are printed.
use Rattle.std.specs.Prelude.{ℕ, ◌+◌, ◌≤◌, List, [], ◌∷◌, ◌++◌, max, Bool, true, false, ◌&&◌, nat_le, IsTrue, length, codes}
use Rattle.std.specs.List.{list_all}
use Rattle.inst_logic.specs.declared.symbol.Kind.{Kind}
use Rattle.inst_logic.specs.declared.symbol.Kind.TheVariants.{Predicate, Equality, Function}
use Rattle.inst_logic.specs.Tree.{Tree, var, app, Trees, none, more}
use Rattle.inst_logic.specs.Clauses.{TreeClause, IsCanonical, order_of}
use Rattle.inst_logic.specs.WellFormed.{IsFormedClause}
use Rattle.tptp_read.specs.declared.statement.Role.TheVariants.{Axiom}
use Rattle.tptp_read.specs.declared.statement.Statement.TheVariants.{Cnf}
use Rattle.tptp_read.specs.Limits.{most_arguments, most_nesting, most_variables}
use Rattle.tptp_read.specs.Names.{clause_is_readable}
use Rattle.tptp_read.specs.Text.{Readable}

abbrev pub one_more : Trees → ℕ → ℕ
one_more none n = 0
one_more (more t ts) n = n + 1

-- the most parentheses that are open at once in a printed tree, and in printed arguments
abbrev mutual
  pub tree_nesting : Tree → ℕ
  tree_nesting (var n) = 0
  tree_nesting (app s ts) = one_more ts (trees_nesting ts)

  pub trees_nesting : Trees → ℕ
  trees_nesting none = 0
  trees_nesting (more t ts) = max (tree_nesting t) (trees_nesting ts)

-- the two sides of an equality stand in no parentheses
abbrev pub atom_nesting : Kind → Trees → ℕ
atom_nesting Predicate ts = one_more ts (trees_nesting ts)
atom_nesting Equality ts = trees_nesting ts
atom_nesting Function ts = one_more ts (trees_nesting ts)

abbrev pub literal_nesting : Tree → ℕ
literal_nesting (var n) = 0
literal_nesting (app s ts) = atom_nesting s.kind ts

abbrev pub clause_nesting : TreeClause → ℕ
clause_nesting [] = 0
clause_nesting (l ∷ ls) = max (literal_nesting l.atom) (clause_nesting ls)

-- no symbol has more arguments than the reader takes
abbrev mutual
  pub tree_is_narrow : Tree → Bool
  tree_is_narrow (var n) = true
  tree_is_narrow (app s ts) = nat_le s.arity most_arguments && trees_are_narrow ts

  pub trees_are_narrow : Trees → Bool
  trees_are_narrow none = true
  trees_are_narrow (more t ts) = tree_is_narrow t && trees_are_narrow ts

-- The clause keeps the limits of the reader, the parenthesis of its statement counted, and its names are readable.
pub record CanBeRead (c : TreeClause) : Type 0 where
  pub formed : IsFormedClause c
  pub canonical : IsCanonical c
  pub names : IsTrue (clause_is_readable c)
  pub nesting : clause_nesting c + 1 ≤ most_nesting
  pub narrow : IsTrue (list_all (λ l. tree_is_narrow l.atom) c)
  pub variables : length (order_of c) ≤ most_variables

-- cnf(a,axiom,TEXT).
abbrev pub as_statement : List ℕ → List ℕ
as_statement text = codes "cnf(a,axiom," ++ text ++ codes ")."

-- the statement with this text for its clause is read, and gives the clause
abbrev pub IsReadAgain : List ℕ → TreeClause → Type 0
IsReadAgain text c = Readable (as_statement text) (Cnf (codes "a") Axiom false c ∷ [])
