-- The walk of a query along the labels of an atom.
use Rattle.std.specs.Prelude.{ℕ, zero, suc, ◌+◌, List, [], ◌∷◌, ◌++◌, ◌&&◌, nat_eq, Option, Some, None, take, drop, slice_index_or, if◌then◌else◌}
use Rattle.term_index.specs.declared.view.View.{View}
use Rattle.term_index.specs.declared.label.Label.{Label}
use Rattle.term_index.specs.declared.label.Label.TheVariants.{Variable, Symbol}
use Rattle.term_index.specs.declared.query.QueryNode.{QueryNode}
use Rattle.term_index.specs.Labels.{arity_of}
use Rattle.term_index.specs.Wide.{atom_bends, query_bends}

-- the nodes of a query, each once, and the numbers of their arguments, one list after the other
pub record Graph : Type 0 where
  pub nodes : List QueryNode
  pub args : List ℕ

abbrev pub no_node : QueryNode
no_node = record { label = Variable; first = 0 }

abbrev pub node_at : Graph → ℕ → QueryNode
node_at g q = slice_index_or g.nodes q no_node

abbrev pub args_at : Graph → ℕ → List ℕ
args_at g q = take (arity_of (node_at g q).label) (drop (node_at g q).first g.args)

-- what is still to be met: so many terms that may be any, and then these nodes of the query
abbrev pub Todo : Type 0
Todo = ℕ × List ℕ

module _ (v : View) (g : Graph) where
  -- a node of the query and a label of the atom, by what the node has
  abbrev pub meet : ℕ → List ℕ → Label → Label → Option Todo
  meet q rest Variable Variable = Some (0, rest)
  meet q rest Variable (Symbol s n) = if query_bends v then Some (n, rest) else None
  meet q rest (Symbol r m) Variable = if atom_bends v then Some (0, rest) else None
  meet q rest (Symbol r m) (Symbol s n) = if nat_eq r s && nat_eq m n then Some (0, args_at g q ++ rest) else None

  abbrev pub step_at : Label → ℕ → List ℕ → Option Todo
  step_at l zero [] = None
  step_at l zero (q ∷ rest) = meet q rest (node_at g q).label l
  step_at l (suc n) rest = Some (n + arity_of l, rest)

  -- what is to be met after one label
  abbrev pub step : Label → Option Todo → Option Todo
  step l None = None
  step l (Some t) = step_at l t.0 t.1

  -- and after all of them
  abbrev pub run : List Label → Option Todo → Option Todo
  run [] t = t
  run (l ∷ ls) t = run ls (step l t)

-- nothing is left to be met
abbrev pub nothing_left : Todo
nothing_left = (0, [])
