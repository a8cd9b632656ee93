-- The trees that the nodes of a bank stand for.
use Rattle.std.specs.Prelude.{◌≡◌, ℕ, ◌-◌, ◌^◌, ◌<◌, min, List, [], ◌∷◌, ◌++◌, length, map, fold, Bool, true, false, None, IsTrue, nat_lt, ◌&&◌, ◌⊎◌, slice_index_or}
use Rattle.std.specs.List.{list_all}
use Rattle.inst_logic.specs.declared.symbol.Sym.{Sym}
use Rattle.inst_logic.specs.Tree.{Tree, var, app, of_list}
use Rattle.inst_logic.specs.Measure.{tree_size, tree_weight}
use Rattle.term_bank.specs.declared.node.Node.{Node}
use Rattle.term_bank.specs.declared.node.Node.TheVariants.{Var, Constant, Unary, Binary, Many}
use Rattle.term_bank.specs.declared.node.Parts.{Parts}
use Rattle.term_bank.specs.declared.node.Parts.TheVariants.{Var as Variable, App as Application}
use Rattle.term_bank.specs.declared.node.Measures.{Measures}
use Rattle.term_bank.specs.Forest.{nth, no_symbol, symbol_at, AreDistinct}
use Rattle.term_bank.specs.Greatest.{greatest_variable}

-- a variable, or a symbol's number with the ids of the arguments
pub data Reading : Type 0 where
  variable : ℕ → Reading
  application : ℕ → List ℕ → Reading

-- the arguments of a node, wherever they stand
abbrev pub reading : Node → Reading
reading (Var v) = variable v
reading (Constant s) = application s []
reading (Unary s args) = application s args
reading (Binary s args) = application s args
reading (Many s args) = application s args

-- the node of a symbol's number and a list of arguments
abbrev pub node_of : ℕ → List ℕ → Node
node_of s [] = Constant s
node_of s (a ∷ []) = Unary s (a ∷ [])
node_of s (a ∷ b ∷ []) = Binary s (a ∷ b ∷ [])
node_of s (a ∷ b ∷ c ∷ args) = Many s (a ∷ b ∷ c ∷ args)

-- the one node that is stored for a reading
abbrev pub stored : Reading → Node
stored (variable v) = Var v
stored (application s args) = node_of s args

-- the parts are what is read of the node
abbrev pub AreParts : Node → Parts → Type 0
AreParts n (Variable v) = reading n ≡ variable v
AreParts n (Application s args) = reading n ≡ application s args.now

abbrev pub node_in : List Node → ℕ → Node
node_in ns i = slice_index_or ns i (Var 0)

abbrev pub no_measures : Measures
no_measures = record { size = 0; weight = 0; greatest = None }

abbrev pub measures_in : List Measures → ℕ → Measures
measures_in ms i = slice_index_or ms i no_measures

-- the tree of what is read over the trees before it
abbrev pub reading_tree : List Sym → List Tree → Reading → Tree
reading_tree ss ts (variable v) = var v
reading_tree ss ts (application s args) = app (symbol_at ss s) (of_list (map (nth ts) args))

abbrev pub node_tree : List Sym → List Tree → Node → Tree
node_tree ss ts n = reading_tree ss ts (reading n)

abbrev pub with_tree : List Sym → List Tree → Node → List Tree
with_tree ss ts n = ts ++ node_tree ss ts n ∷ []

unfoldable pub trees_of : List Sym → List Node → List Tree
trees_of ss ns = fold (with_tree ss) [] ns

-- the symbol is one of so many, and the arguments come before
abbrev pub reading_fits : ℕ → ℕ → Reading → Bool
reading_fits symbols k (variable v) = true
reading_fits symbols k (application s args) = nat_lt s symbols && list_all (λ i. nat_lt i k) args

abbrev pub node_fits : ℕ → ℕ → Node → Bool
node_fits symbols k n = reading_fits symbols k (reading n)

-- the same list, or one more item at its end that was not there
abbrev pub IsGrownBy : {A X : Type 0} → (A → X) → (none : A) → List A → List A → A → Type 0
IsGrownBy key none xs ys y = (ys ≡ xs) ⊎ ((ys ≡ xs ++ y ∷ []) × ((i : ℕ) → i < length xs → ¬ (key (slice_index_or xs i none) ≡ key y)))

abbrev pub SymbolsGrow : List Sym → List Sym → Sym → Type 0
SymbolsGrow ss rs s = IsGrownBy (λ (x : Sym). x) no_symbol ss rs s

-- the node has this number, and is the one more node where it is new
pub record IsNumbered (ns ms : List Node) (n : Node) (i : ℕ) (new : Bool) : Type 0 where
  pub within : i < length ms
  pub at : node_in ms i ≡ n
  pub known : new ≡ false → ms ≡ ns
  pub grown : new ≡ true → (ms ≡ ns ++ n ∷ []) × ((j : ℕ) → j < length ns → ¬ (node_in ns j ≡ n))

-- the measures are those of the tree
pub record AreMeasuresOf (t : Tree) (f : Measures) : Type 0 where
  pub size : f.size ≡ min (tree_size t) (2 ^ 64 - 1)
  pub weight : f.weight ≡ min (tree_weight t) (2 ^ 64 - 1)
  pub greatest : f.greatest ≡ greatest_variable t

-- the measures stand beside the nodes, one for one
pub record IsBank (ss : List Sym) (ns : List Node) (ms : List Measures) : Type 0 where
  pub symbols_once : (i j : ℕ) → i < length ss → j < length ss → symbol_at ss i ≡ symbol_at ss j → i ≡ j
  pub fits : (k : ℕ) → k < length ns → IsTrue (node_fits (length ss) k (node_in ns k))
  pub exact : (k : ℕ) → k < length ns → stored (reading (node_in ns k)) ≡ node_in ns k
  pub beside : length ms ≡ length ns
  pub measures : (k : ℕ) → k < length ns → AreMeasuresOf (nth (trees_of ss ns) k) (measures_in ms k)
  pub distinct : AreDistinct (trees_of ss ns)
