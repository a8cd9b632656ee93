-- Tables as text, with a line for each cell.
use Rattle.std.specs.Prelude.{ℕ, List, [], ◌∷◌, ◌++◌, codes, decimal, nat_eq, slice_index_or}
use Rattle.std.specs.List.{flat_map}
use Rattle.inst_logic.specs.declared.symbol.Kind.{Kind}
use Rattle.inst_logic.specs.declared.symbol.Kind.TheVariants.{Predicate, Equality, Function}
use Rattle.inst_logic.specs.declared.symbol.Sym.{Sym}
use Rattle.inst_logic.specs.Printing.{name_text, sign_text}
use Rattle.finite_model.specs.declared.tables.Table.{Table}
use Rattle.finite_model.specs.declared.tables.Tables.{Tables}
use Rattle.finite_model.specs.Tables.{place_after}
use Rattle.finite_model.specs.Filled.{all_arguments}

-- what follows an argument
abbrev pub more_elements : List ℕ → List ℕ
more_elements [] = codes ")"
more_elements (e ∷ es) = codes "," ++ decimal e ++ more_elements es

-- the arguments in parentheses, and nothing where there are none
abbrev pub elements_text : List ℕ → List ℕ
elements_text [] = []
elements_text (e ∷ es) = codes "(" ++ decimal e ++ more_elements es

-- f(1,2) = 1
abbrev pub value_line : Sym → List ℕ → ℕ → List ℕ
value_line f es cell = name_text f.name ++ elements_text es ++ codes " = " ++ decimal cell ++ codes "\n"

-- p(1,2), or ~p(1,2) where the cell is not 1
abbrev pub truth_line : Sym → List ℕ → ℕ → List ℕ
truth_line p es cell = sign_text (nat_eq cell 1) ++ name_text p.name ++ elements_text es ++ codes "\n"

-- equality has no table
abbrev pub cell_line : Kind → Sym → List ℕ → ℕ → List ℕ
cell_line Function s es cell = value_line s es cell
cell_line Predicate s es cell = truth_line s es cell
cell_line Equality s es cell = truth_line s es cell

-- the line of the cell at these arguments
abbrev pub line_at : ℕ → Table → List ℕ → List ℕ
line_at k t es = cell_line t.sym.kind t.sym es (slice_index_or t.cells (place_after k 0 es) 0)

-- the line of each cell, in lexicographic order of the arguments
abbrev pub table_lines : ℕ → Table → List ℕ
table_lines k t = flat_map (line_at k t) (all_arguments k t.sym.arity)

abbrev pub tables_line : ℕ → List ℕ → List ℕ
tables_line k file = codes "% tables " ++ decimal k ++ codes " for " ++ file ++ codes "\n"

abbrev pub no_tables_line : ℕ → List ℕ → List ℕ
no_tables_line k file = codes "% no tables " ++ decimal k ++ codes " for " ++ file ++ codes "\n"

-- functions first
abbrev pub tables_text : ℕ → List ℕ → Tables → List ℕ
tables_text k file ts = tables_line k file ++ flat_map (table_lines k) ts.functions ++ flat_map (table_lines k) ts.predicates
