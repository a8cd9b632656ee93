-- Clauses in flattened form: the elements are constants, a function is a predicate of its arguments and its value, and each
-- term has a variable that stands for it (McCune, A Davis-Putnam program and its application to finite first-order model
-- search, 1994).
use Rattle.std.specs.Prelude.{ℕ, ◌+◌, ◌-◌, List, [], ◌∷◌, ◌++◌, Bool, true, false, nat_eq, codes, decimal, map}
use Rattle.std.specs.List.{position_or_len, flat_map, range_with_len}
use Rattle.inst_logic.specs.declared.symbol.Sym.{Sym}
use Rattle.inst_logic.specs.declared.symbol.Kind.{Kind}
use Rattle.inst_logic.specs.declared.symbol.Kind.TheVariants.{Predicate, Equality, Function}
use Rattle.inst_logic.specs.declared.signed.Signed.{Signed}
use Rattle.inst_logic.specs.Tree.{Tree, var, app, Trees, none, more, of_list, to_list}
use Rattle.inst_logic.specs.Lists.{distinct}
use Rattle.inst_logic.specs.Equal.{sym_eq, tree_eq}
use Rattle.inst_logic.specs.Clauses.{TreeClause, canonical_form}
use Rattle.finite_model.specs.Tables.{functions_of, predicates_of}

-- the symbols of clauses in the order of their numbers
pub record Numbers : Type 0 where
  pub functions : List Sym
  pub predicates : List Sym

abbrev pub numbers_of : List TreeClause → Numbers
numbers_of cs = record { functions = functions_of cs; predicates = predicates_of cs }

-- the symbol's number in the list, counted from 1
abbrev pub number_of : List Sym → Sym → ℕ
number_of ss s = position_or_len (λ r. sym_eq r s) ss + 1

-- f1, f2, .. for the functions, with one more argument for the value
abbrev pub function_predicate : Numbers → Sym → Sym
function_predicate ns f = record { kind = Predicate; name = codes "f" ++ decimal (number_of ns.functions f); arity = f.arity + 1 }

-- p1, p2, .. for the predicates
abbrev pub numbered_predicate : Numbers → Sym → Sym
numbered_predicate ns p = record { kind = Predicate; name = codes "p" ++ decimal (number_of ns.predicates p); arity = p.arity }

abbrev pub identity : Sym
identity = record { kind = Predicate; name = codes "id"; arity = 2 }

-- the constant for an element: k1, k2, ..
abbrev pub element : ℕ → Tree
element e = app (record { kind = Function; name = codes "k" ++ decimal e; arity = 0 }) none

abbrev pub applied : Sym → List Tree → Tree
applied s ts = app s (of_list ts)

-- id(ki,kj) where i is j, and ~id(ki,kj) elsewhere
abbrev pub identity_clause : ℕ → ℕ → TreeClause
identity_clause i j = record { positive = nat_eq i j; atom = applied identity (element i ∷ element j ∷ []) } ∷ []

-- for i and j from 1 to k
abbrev pub identity_clauses : ℕ → List TreeClause
identity_clauses k = flat_map (λ i. map (identity_clause i) (range_with_len 1 k)) (range_with_len 1 k)

-- fN(X0,..,value), or its denial, where the predicate is that of a function with so many arguments
abbrev pub value_literal : Sym → ℕ → Bool → ℕ → Signed Tree
value_literal s n sign e = record { positive = sign; atom = applied s (map var (range_with_len 0 n) ++ element e ∷ []) }

-- some element is the value
abbrev pub total_clause : ℕ → Sym → ℕ → TreeClause
total_clause k s n = map (value_literal s n true) (range_with_len 1 k)

-- i and j are not both the value
abbrev pub unique_clause : Sym → ℕ → ℕ → ℕ → TreeClause
unique_clause s n i j = value_literal s n false i ∷ value_literal s n false j ∷ []

-- for i < j, both from 1 to k
abbrev pub unique_clauses : ℕ → Sym → ℕ → List TreeClause
unique_clauses k s n = flat_map (λ i. map (unique_clause s n i) (range_with_len (i + 1) (k - i))) (range_with_len 1 k)

-- exactly one element is the value
abbrev pub graph_clauses : ℕ → Sym → ℕ → List TreeClause
graph_clauses k s n = total_clause k s n ∷ unique_clauses k s n

abbrev pub function_clauses : ℕ → Numbers → Sym → List TreeClause
function_clauses k ns f = graph_clauses k (function_predicate ns f) f.arity

-- every occurrence of a variable or a term, in the order in which they end: the arguments stand before the term
abbrev mutual
  pub parts : Tree → List Tree
  parts (var v) = var v ∷ []
  parts (app f us) = parts_of_each us ++ app f us ∷ []

  pub parts_of_each : Trees → List Tree
  parts_of_each none = []
  parts_of_each (more u us) = parts u ++ parts_of_each us

-- those in the arguments of an atom
abbrev pub atom_parts : Tree → List Tree
atom_parts (var v) = []
atom_parts (app p us) = parts_of_each us

abbrev pub clause_parts : TreeClause → List Tree
clause_parts c = distinct tree_eq (flat_map (λ l. atom_parts l.atom) c)

-- the variable that stands for a part is numbered by the part's place
abbrev pub stands_for : List Tree → Tree → Tree
stands_for ps t = var (position_or_len (λ u. tree_eq u t) ps)

-- for a term, ~fN(arguments,value), where variables stand for the arguments and the term
abbrev pub value_denial : Numbers → List Tree → Tree → TreeClause
value_denial ns ps (var v) = []
value_denial ns ps (app f us) =
    record { positive = false; atom = applied (function_predicate ns f) (map (stands_for ps) (to_list us) ++ stands_for ps (app f us) ∷ []) } ∷ []

abbrev pub predicate_for : Numbers → Kind → Sym → Sym
predicate_for ns Predicate p = numbered_predicate ns p
predicate_for ns Equality p = identity
predicate_for ns Function p = p

-- the atom with the variables that stand for its arguments
abbrev pub flat_atom : Numbers → List Tree → Tree → Tree
flat_atom ns ps (var v) = var v
flat_atom ns ps (app p us) = applied (predicate_for ns p.kind p) (map (stands_for ps) (to_list us))

abbrev pub flat_literal : Numbers → List Tree → Signed Tree → Signed Tree
flat_literal ns ps l = record { positive = l.positive; atom = flat_atom ns ps l.atom }

-- first the denials for the different terms, and then the clause's own literals
abbrev pub flat_clause : Numbers → TreeClause → TreeClause
flat_clause ns c = flat_map (value_denial ns (clause_parts c)) (clause_parts c) ++ map (flat_literal ns (clause_parts c)) c

-- the clauses of the flattened form before their variables are numbered
abbrev pub plain_clauses : ℕ → List TreeClause → List TreeClause
plain_clauses k cs = identity_clauses k ++ flat_map (function_clauses k (numbers_of cs)) (functions_of cs) ++ map (flat_clause (numbers_of cs)) cs

-- the flattened form for k elements
abbrev pub flattened : ℕ → List TreeClause → List TreeClause
flattened k cs = map canonical_form (plain_clauses k cs)

-- the names of its clauses, where the clauses have these names
abbrev pub flattened_names : ℕ → List TreeClause → List (List ℕ) → List (List ℕ)
flattened_names k cs names =
    map (λ c. codes "id") (identity_clauses k)
    ++ flat_map (λ f. map (λ c. (function_predicate (numbers_of cs) f).name) (function_clauses k (numbers_of cs) f)) (functions_of cs)
    ++ names
