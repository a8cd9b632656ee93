-- The pieces of a line.
use Rattle.std.specs.Prelude.{ℕ, List, ◌++◌, codes, decimal}
use Rattle.inst_logic.specs.Clauses.{TreeClause}
use Rattle.inst_logic.specs.Printing.{clause_text}

-- `cnf(LABEL N,ROLE,CLAUSE,`: what stands before the note of a line
abbrev pub line_front : List ℕ → ℕ → List ℕ → TreeClause → List ℕ
line_front label n role c = codes "cnf(" ++ label ++ decimal n ++ codes "," ++ role ++ codes "," ++ clause_text c ++ codes ","
