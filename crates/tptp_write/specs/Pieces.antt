-- The literals of a clause behind its first one.
use Rattle.std.specs.Prelude.{ℕ, List, [], ◌∷◌, ◌++◌, codes}
use Rattle.inst_logic.specs.Clauses.{TreeClause}
use Rattle.inst_logic.specs.Printing.{literal_text}

abbrev pub following_text : TreeClause → List ℕ
following_text [] = []
following_text (l ∷ ls) = codes " | " ++ literal_text l ++ following_text ls
