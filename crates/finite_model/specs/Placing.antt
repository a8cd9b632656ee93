-- A walk that gives each different part of a clause a place. A part is noted by its symbol with the variables that stand for its
-- arguments, so a term is never compared as a whole.
use Rattle.std.specs.Prelude.{ℕ, ◌+◌, List, [], ◌∷◌, ◌++◌, false}
use Rattle.inst_logic.specs.Tree.{Tree, var, app, Trees, none, more, of_list, to_list}
use Rattle.inst_logic.specs.Lists.{with_item}
use Rattle.inst_logic.specs.Equal.{tree_eq}
use Rattle.inst_logic.specs.Clauses.{TreeClause}
use Rattle.finite_model.specs.Flattening.{Numbers, stands_for, function_predicate, predicate_for, applied}

-- the variables that stand for the tree and for the trees, and the notes after these were walked
abbrev mutual
  pub placed_name : List Tree → Tree → Tree
  placed_name notes (var v) = stands_for notes (var v)
  placed_name notes (app f us) = stands_for (placed_each notes us) (app f (of_list (placed_names notes us)))

  pub placed_names : List Tree → Trees → List Tree
  placed_names notes none = []
  placed_names notes (more u us) = placed_name notes u ∷ placed_names (placed notes u) us

  pub placed : List Tree → Tree → List Tree
  placed notes (var v) = with_item tree_eq notes (var v)
  placed notes (app f us) = with_item tree_eq (placed_each notes us) (app f (of_list (placed_names notes us)))

  pub placed_each : List Tree → Trees → List Tree
  placed_each notes none = notes
  placed_each notes (more u us) = placed_each (placed notes u) us

-- the notes after the arguments of an atom were walked, and after those of all literals
abbrev pub placed_atom : List Tree → Tree → List Tree
placed_atom notes (var v) = notes
placed_atom notes (app p us) = placed_each notes us

abbrev pub placed_clause : List Tree → TreeClause → List Tree
placed_clause notes [] = notes
placed_clause notes (l ∷ ls) = placed_clause (placed_atom notes l.atom) ls

abbrev pub placed_flat : Numbers → List Tree → Tree → Tree
placed_flat ns notes (var v) = var v
placed_flat ns notes (app p us) = applied (predicate_for ns p.kind p) (placed_names notes us)

abbrev pub placed_literals : Numbers → List Tree → TreeClause → TreeClause
placed_literals ns notes [] = []
placed_literals ns notes (l ∷ ls) = record { positive = l.positive; atom = placed_flat ns notes l.atom } ∷ placed_literals ns (placed_atom notes l.atom) ls

-- what a note at a place denies
abbrev pub note_denial : Numbers → ℕ → Tree → TreeClause
note_denial ns place (var v) = []
note_denial ns place (app f us) = record { positive = false; atom = applied (function_predicate ns f) (to_list us ++ var place ∷ []) } ∷ []

abbrev pub note_denials : Numbers → ℕ → List Tree → TreeClause
note_denials ns place [] = []
note_denials ns place (n ∷ notes) = note_denial ns place n ++ note_denials ns (place + 1) notes
