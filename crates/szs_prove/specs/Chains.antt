-- The clauses of a chain: a walk from the first of n constants over edges to the last, which is said not to be reached.
use Rattle.std.specs.Prelude.{ℕ, zero, suc, ◌+◌, ◌-◌, List, [], ◌∷◌, ◌++◌, All, codes, decimal}
use Rattle.inst_logic.specs.Tree.{Tree, var}
use Rattle.inst_logic.specs.Clauses.{TreeClause}
use Rattle.inst_logic.specs.Examples.{of_predicate, of_function, yes, no}
use Rattle.inst_calculus.specs.Axioms.{with_axioms}
use Rattle.inst_calculus.specs.Models.{SelectedClause, Makes}

-- `c1`, `c2`, ..
abbrev pub constant : ℕ → Tree
constant i = of_function (codes "c" ++ decimal i) []

abbrev pub edge : Tree → Tree → Tree
edge t u = of_predicate (codes "e") (t ∷ u ∷ [])

abbrev pub reached : Tree → Tree
reached t = of_predicate (codes "r") (t ∷ [])

-- there is an edge from constant i to the next
abbrev pub edge_clause : ℕ → TreeClause
edge_clause i = yes (edge (constant i) (constant (i + 1))) ∷ []

-- from each of the first k constants there is an edge to the next
abbrev pub edge_clauses : ℕ → List TreeClause
edge_clauses zero = []
edge_clauses (suc k) = edge_clauses k ++ edge_clause (suc k) ∷ []

-- the first constant is reached
abbrev pub first_clause : TreeClause
first_clause = yes (reached (constant 1)) ∷ []

-- what an edge leads to from something reached is reached
abbrev pub rule_clause : TreeClause
rule_clause = no (reached (var 0)) ∷ no (edge (var 0) (var 1)) ∷ yes (reached (var 1)) ∷ []

-- constant n is not reached
abbrev pub last_clause : ℕ → TreeClause
last_clause n = no (reached (constant n)) ∷ []

-- the n - 1 edges between n constants, and the three clauses that these contradict
abbrev pub chain_clauses : ℕ → List TreeClause
chain_clauses n = edge_clauses (n - 1) ++ first_clause ∷ rule_clause ∷ last_clause n ∷ []

-- no clauses with selected literals make every ground instance of these clauses and their axioms true
abbrev pub HasNoModel : List TreeClause → Type 0
HasNoModel cs = (ms : List SelectedClause) → ¬ All (Makes ms) (with_axioms cs)
