-- Tables that are read off by the truth test of a list of clauses with selected literals.
use Rattle.std.specs.Prelude.{◌≡◌, ℕ, ◌<◌, ◌^◌, List, [], ◌∷◌, ◌++◌, ◌⊎◌, length, map, slice_index_or, All, Contains}
use Rattle.inst_logic.specs.declared.symbol.Sym.{Sym}
use Rattle.inst_logic.specs.declared.symbol.Kind.TheVariants.{Predicate}
use Rattle.inst_logic.specs.Tree.{Tree}
use Rattle.inst_logic.specs.Clauses.{TreeClause}
use Rattle.inst_calculus.specs.Models.{SelectedClause, IsTrueBy}
use Rattle.finite_model.specs.declared.tables.Table.{Table}
use Rattle.finite_model.specs.declared.tables.Tables.{Tables}
use Rattle.finite_model.specs.Tables.{IsElement, place_after, cell_at, functions_of, predicates_of}
use Rattle.finite_model.specs.Flattening.{Numbers, numbers_of, function_predicate, numbered_predicate, element, applied}

-- elements, as many as the arity
pub record AreArguments (k : ℕ) (s : Sym) (es : List ℕ) : Type 0 where
  pub elements : All (IsElement k) es
  pub count : length es ≡ s.arity

-- fN(arguments,value)
abbrev pub value_atom : List TreeClause → Sym → List ℕ → ℕ → Tree
value_atom cs f es e = applied (function_predicate (numbers_of cs) f) (map element es ++ element e ∷ [])

-- pN(arguments)
abbrev pub predicate_atom : List TreeClause → Sym → List ℕ → Tree
predicate_atom cs p es = applied (numbered_predicate (numbers_of cs) p) (map element es)

-- Each cell of a function is an element that the test takes for the value. A cell of a predicate is 1 where the test takes the
-- atom for true, and 0 elsewhere.
pub record AreRead (k : ℕ) (cs : List TreeClause) (ms : List SelectedClause) (ts : Tables) : Type 0 where
  pub element : (f : Sym) → Contains (functions_of cs) f → (es : List ℕ) → AreArguments k f es → IsElement k (cell_at k ts.functions f es)
  pub value : (f : Sym) → Contains (functions_of cs) f → (es : List ℕ) → AreArguments k f es → IsTrueBy ms (value_atom cs f es (cell_at k ts.functions f es))
  pub truth : (p : Sym) → Contains (predicates_of cs) p → (es : List ℕ) → AreArguments k p es
      → ((cell_at k ts.predicates p es ≡ 1) × IsTrueBy ms (predicate_atom cs p es)) ⊎ ((cell_at k ts.predicates p es ≡ 0) × ¬ IsTrueBy ms (predicate_atom cs p es))

-- a predicate of n arguments
pub record IsRelation (s : Sym) (n : ℕ) : Type 0 where
  pub kind : s.kind ≡ Predicate
  pub arity : s.arity ≡ n

-- the list of n elements whose cell has this place
pub record IsRow (k n row : ℕ) (es : List ℕ) : Type 0 where
  pub elements : All (IsElement k) es
  pub count : length es ≡ n
  pub place : place_after k 0 es ≡ row

-- the cells of the first rows, and of no others: P holds of the arguments and the cell
pub record AreFilled (k n : ℕ) (P : List ℕ → ℕ → Type 0) (rows : ℕ) (cells : List ℕ) : Type 0 where
  pub count : length cells ≡ rows
  pub cell : (row : ℕ) → row < rows → (es : List ℕ) × IsRow k n row es × P es (slice_index_or cells row 0)

-- the test takes the element for the value at the arguments, where the symbol stands for a function
abbrev pub IsValueAt : List SelectedClause → ℕ → Sym → List ℕ → ℕ → Type 0
IsValueAt ms k s es e = IsElement k e × IsTrueBy ms (applied s (map element es ++ element e ∷ []))

-- 1 where the test takes the atom for true, and 0 elsewhere
abbrev pub IsTruthAt : List SelectedClause → Sym → List ℕ → ℕ → Type 0
IsTruthAt ms s es n = ((n ≡ 1) × IsTrueBy ms (applied s (map element es))) ⊎ ((n ≡ 0) × ¬ IsTrueBy ms (applied s (map element es)))

-- at all arguments there is a value
abbrev pub HasValues : List SelectedClause → ℕ → ℕ → Sym → Type 0
HasValues ms k n s = (es : List ℕ) → All (IsElement k) es → length es ≡ n → (e : ℕ) × IsValueAt ms k s es e

-- tables whose cells were read one after another
pub record IsReadFunction (ms : List SelectedClause) (k : ℕ) (ns : Numbers) (t : Table) : Type 0 where
  pub cells : AreFilled k t.sym.arity (IsValueAt ms k (function_predicate ns t.sym)) (k ^ t.sym.arity) t.cells

pub record IsReadPredicate (ms : List SelectedClause) (k : ℕ) (ns : Numbers) (t : Table) : Type 0 where
  pub cells : AreFilled k t.sym.arity (IsTruthAt ms (numbered_predicate ns t.sym)) (k ^ t.sym.arity) t.cells

-- those of the symbols of a numbering, in its order
pub record AreReadBy (ms : List SelectedClause) (k : ℕ) (ns : Numbers) (ts : Tables) : Type 0 where
  pub functions : map (λ t. t.sym) ts.functions ≡ ns.functions
  pub predicates : map (λ t. t.sym) ts.predicates ≡ ns.predicates
  pub read_functions : All (IsReadFunction ms k ns) ts.functions
  pub read_predicates : All (IsReadPredicate ms k ns) ts.predicates
